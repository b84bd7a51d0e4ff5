use Rattle.full_tables.proofs.LawProofs.{full_sender_fails}
use Rattle.full_tables.proofs.laws.full_sender_fails.Goals as goal

pub returns : goal.returns
returns c = full_sender_fails
