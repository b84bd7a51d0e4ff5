-- Whom a node touched, and when it last did.
use Rattle.std.specs.Prelude.{◌≡◌, ◌<◌, ℕ, Bool, true, false, not, ◌&&◌, List, [], ◌∷◌, length, find, get_or, Option, Some, None, is_some}
use Rattle.td_base.specs.declared.ipv6.Ip6.{Ip6}
use Rattle.td_base.specs.Ip6.{same_ip6}
use Rattle.peer_list.specs.declared.limits.TheConstants.{LISTED_MS}
use Rattle.peer_list.specs.Listed.{is_younger}
use Rattle.load_keeper.specs.declared.touch.Touch.{Touch}

-- it is the touch of this peer
abbrev pub touches_peer : Ip6 → Touch → Bool
touches_peer p t = same_ip6 p t.who

-- the moment of a touch is young enough at n that its peer is listed
abbrev pub is_young_touch : ℕ → Option Touch → Bool
is_young_touch n None = false
is_young_touch n (Some t) = is_younger LISTED_MS n t.at.0

-- each of these touches is of another peer than those behind it
abbrev pub are_apart : List Touch → Bool
are_apart [] = true
are_apart (t ∷ ts) = not (is_some (find (touches_peer t.who) ts)) && are_apart ts

-- At this place is the touch of a peer.
pub record IsTouchAt (p : Ip6) (ts : List Touch) (i : ℕ) : Type 0 where
  pub touch : Touch
  pub within : i < length ts
  pub at : get_or ts i touch ≡ touch
  pub is : touches_peer p touch ≡ true
