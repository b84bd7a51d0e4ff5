use Rattle.td_audit.proofs.Words.{rules}
use Rattle.td_audit.proofs.key.key_of.Goals as goal

pub returns : goal.returns
returns c = search rules
