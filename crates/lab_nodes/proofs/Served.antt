-- The natives that a relay serves, as they are gathered.
use Rattle.lab_nodes.proofs.Words.{Ip6, List, NativeNode, filter, map, ℕ, ◌==◌}

-- those of some rows
abbrev pub served_of : ℕ → List NativeNode → List Ip6
served_of n rows = map (λ (h : NativeNode). h.six) (filter (λ (h : NativeNode). h.relay == n) rows)
