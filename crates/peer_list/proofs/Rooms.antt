-- Where there is room for an address among mentions.
use Rattle.peer_list.proofs.Words.{Bool, FindsRoom, Ip6, List, Mention, None, PEERS_MAX, Some, ap, cond, false, false≢true, has_room, is_listed, is_some, length, listed, nat_lt, or_parts, peer_at, refl, sym, true, ℕ, ◌∙◌, ◌≡◌}

-- where there is none, it isn't listed
pub not_listed : (ms : List Mention) (n : ℕ) (p : Ip6) → has_room ms n p ≡ false → is_listed p n ms ≡ false
unfolding has_room
not_listed ms n p none = (or_parts (is_listed p n ms) (nat_lt (length (listed ms n)) PEERS_MAX) none).0

pub not_known : (ms : List Mention) (n : ℕ) (p : Ip6) → has_room ms n p ≡ false → peer_at ms n p ≡ None
unfolding peer_at
not_known ms n p none = let out = not_listed ms n p none in rw out refl

-- there is for a listed one
pub listed_has_room : (ms : List Mention) (n : ℕ) (p : Ip6) → is_listed p n ms ≡ true → has_room ms n p ≡ true
unfolding has_room
listed_has_room ms n p there = rw there refl

-- a further mention that touches nobody for whom there is none
pub room_by : (m : Mention) (ms : List Mention) → ((p : Ip6) → m.peer ≡ Some p → has_room ms m.moment p ≡ false → m.bearing.touches ≡ false) → FindsRoom m ms
room_by m ms idle p touched = by m.bearing.touches refl touched where
  by_room : (b : Bool) → has_room ms m.moment p ≡ b → m.bearing.touches ≡ true → m.peer ≡ Some p → has_room ms m.moment p ≡ true
  by_room true room t about = room
  by_room false none t about = absurd (false≢true (sym (idle p about none) ∙ t))

  by : (b : Bool) → m.bearing.touches ≡ b → cond b m.peer None ≡ Some p → has_room ms m.moment p ≡ true
  by true t about = by_room (has_room ms m.moment p) refl t about
  by false t about = absurd (false≢true (ap is_some about))

-- one that is about nobody
pub room_of_none : (m : Mention) (ms : List Mention) → m.peer ≡ None → FindsRoom m ms
room_of_none m ms nobody = room_by m ms (λ p about none. absurd (false≢true (ap is_some (sym nobody ∙ about))))
