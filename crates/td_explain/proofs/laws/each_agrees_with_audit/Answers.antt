use Rattle.td_explain.proofs.LawProofs.{each_agrees_with_audit}
use Rattle.td_explain.proofs.laws.each_agrees_with_audit.Goals as goal

pub returns : goal.returns
returns c = each_agrees_with_audit
