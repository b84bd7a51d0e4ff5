-- The records before a part of a history grew too.
use Rattle.std.proofs.Common.{List, [], ◌∷◌, ◌++◌}
use Rattle.history.specs.Full.{Full}
use Rattle.legal.specs.Lab.{Lab}
use Rattle.legal.specs.Legal.{Grown}

pub earlier : (lab : Lab) (later before : List Full) → Grown lab (later ++ before) → Grown lab before
earlier lab [] before g = g
earlier lab (r ∷ later) before g = earlier lab later before g.1
