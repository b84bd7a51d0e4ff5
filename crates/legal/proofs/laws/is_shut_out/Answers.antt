use Rattle.legal.proofs.LawProofs.{is_shut_out}
use Rattle.legal.proofs.laws.is_shut_out.Goals as goal

pub returns : goal.returns
returns c = is_shut_out
