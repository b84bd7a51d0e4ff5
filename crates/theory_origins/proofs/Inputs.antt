-- The datagram that an input is.
use Rattle.theory_origins.proofs.Words.{Bool, Ep, Input, List, [], arrived, false, true, ℕ}

abbrev pub is_arrived : Input → Bool
is_arrived (arrived from x) = true
is_arrived _ = false

abbrev pub from_of : Ep → Input → Ep
from_of e (arrived from x) = from
from_of e _ = e

abbrev pub bytes_of : Input → List ℕ
bytes_of (arrived from x) = x
bytes_of _ = []
