use Rattle.scenario.proofs.LawProofs.{rules_kept}
use Rattle.scenario.proofs.laws.rules_kept.Goals as goal

pub returns : goal.returns
returns c = rules_kept
