-- No fate has a long word.
use Rattle.std.proofs.Common.{◌≤◌, length, arith}
use Rattle.teredo_node.specs.declared.fate.Fate.{Fate}
use Rattle.teredo_node.specs.declared.fate.Fate.TheVariants as fate
use Rattle.teredo_node.specs.Fate.{fate_word}

pub short_word : (f : Fate) → length (fate_word f) ≤ 20
short_word fate.Malformed = omega arith
short_word _ = omega arith
