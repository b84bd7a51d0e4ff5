use Rattle.std.proofs.Common.{rules}
use Rattle.teredo_node.proofs.step.Step.reset.Goals as goal

pub returns : goal.returns
returns c = search rules
