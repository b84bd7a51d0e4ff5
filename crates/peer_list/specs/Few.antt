-- How many peers are listed at most.
use Rattle.std.specs.Prelude.{◌≡◌, ◌≤◌, ℕ, true, List, [], ◌∷◌, length, Some}
use Rattle.std.specs.List.{AllByRecursion}
use Rattle.td_base.specs.declared.ipv6.Ip6.{Ip6}
use Rattle.peer_list.specs.declared.limits.TheConstants.{PEERS_MAX}
use Rattle.peer_list.specs.Mentions.{Mention}
use Rattle.peer_list.specs.Listed.{touched_by, listed, has_room}
use Rattle.peer_list.specs.Laws.{InOrder}

-- an entry that touches a peer finds room for it
abbrev pub FindsRoom : Mention → List Mention → Type 0
FindsRoom e j = (p : Ip6) → touched_by e ≡ Some p → has_room j e.moment p ≡ true

-- each one does
abbrev pub HaveRoom : List Mention → Type 0
HaveRoom [] = Unit {0}
HaveRoom (e ∷ j) = FindsRoom e j × HaveRoom j

-- then there are never more than 256, the moment n being none before the latest entry
abbrev pub FewListed : Type 0
FewListed = (j : List Mention) (n : ℕ) → InOrder j → AllByRecursion (λ (e : Mention). e.moment ≤ n) j → HaveRoom j → length (listed j n) ≤ PEERS_MAX
