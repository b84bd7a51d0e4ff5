use Rattle.full_tables.proofs.LawProofs.{full_receiver_fails}
use Rattle.full_tables.proofs.laws.full_receiver_fails.Goals as goal

pub returns : goal.returns
returns c = full_receiver_fails
