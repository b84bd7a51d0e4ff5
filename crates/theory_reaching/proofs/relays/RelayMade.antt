-- What of a relay's entry comes onto the wire.
use Rattle.theory_reaching.proofs.Words.{AllByRecursion, Bool, Item, List, Made, Option, RelayNode, Send, [], false, filter_map, is_at_place, item_in, made_outright, outright, own_ep, relay, true, udp, ℕ, ◌++◌, ◌+◌, ◌∷◌}

-- each entry that a relay's datagrams make is such as each datagram on the wire is
pub each_made : (P : Item → Type 0) (r : RelayNode) (fails : Option ℕ) (i : ℕ) (us : List Send) (rest : List Made)
    → AllByRecursion (λ (u : Send). P (udp r.at u.to u.bytes)) us → AllByRecursion P (filter_map item_in rest)
    → AllByRecursion P (filter_map item_in (outright (own_ep (relay r)) fails i us ++ rest))
each_made P r fails i [] rest all others = others
each_made P r fails i (u ∷ us) rest all others = by (is_at_place i fails) (each_made P r fails (i + 1) us rest all.1 others) where
  by : (b : Bool) → AllByRecursion P (filter_map item_in (outright (own_ep (relay r)) fails (i + 1) us ++ rest))
      → AllByRecursion P (filter_map item_in (made_outright b (own_ep (relay r)) u ∷ (outright (own_ep (relay r)) fails (i + 1) us ++ rest)))
  by true later = later
  by false later = (all.0, later)
