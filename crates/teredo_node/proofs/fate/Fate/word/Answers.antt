use Rattle.std.proofs.Common.{rules}
use Rattle.teredo_node.proofs.fate.Fate.word.Goals as goal

pub returns-in-Forward : goal.returns-in-Forward
returns-in-Forward c = search rules
