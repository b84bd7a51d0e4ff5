-- What contracts see of the peers that a node keeps: the listings, in no order that matters (RFC 4380, section 5.2).
use Rattle.std.specs.Prelude.{ℕ, ◌||◌, Bool, nat_lt, List, [], ◌∷◌, length, filter, find, Option, Some, None, if◌then◌else◌, option_map, unwrap_or, is_some}
use Rattle.std.specs.Ordering.{nat_cmp, ordering_then, is_lt}
use Rattle.td_base.specs.Ip6.{same_ip6, cmp_ip6}
use Rattle.td_base.specs.declared.ipv6.Ip6.{Ip6}
use Rattle.td_base.specs.declared.millis.Millis.{Millis}
use Rattle.peer_list.specs.declared.limits.TheConstants.{LISTED_MS, PEERS_MAX}
use Rattle.peer_list.specs.Listed.{with_peer}
use Rattle.peer_list.specs.Peers.{Peer, no_peer}
use Rattle.peer_list.specs.Judged.{is_within, due_of}
use Rattle.peer_list.specs.Waiting.{Listing, kept_among, first_among}

-- *table of peers*: what the code keeps. It stands for a list of mentions where, from its moment on, it knows of each
-- address what they say.
-- the latest moment that a call gave, and whoever was touched so lately that they may still be listed
pub record Table : Type 0 where
  pub moment : ℕ
  pub listings : List Listing
  pub latest : Option Ip6  -- whom the latest call changed

-- the table at a moment, with these listings, after a call that changed what is known of this peer
abbrev pub table_after : ℕ → Option Ip6 → List Listing → Table
table_after m who ls = record { moment = m; listings = ls; latest = who }

-- the table at a moment, with these listings, after no call
abbrev pub table : ℕ → List Listing → Table
table m ls = table_after m None ls

-- nobody is listed
abbrev pub empty_table : Table
empty_table = table 0 []

-- WHAT IS KNOWN AT A MOMENT

-- a peer, as long as it is listed
abbrev pub while_listed : ℕ → Peer → Option Peer
while_listed n peer = if is_within LISTED_MS n peer.touched then Some peer else None

-- the peer of a listing, as long as it is listed
abbrev pub peer_listed : ℕ → Option Listing → Option Peer
peer_listed n None = None
peer_listed n (Some l) = while_listed n l.peer

-- is it the listing of this address?
abbrev pub is_of : Ip6 → Listing → Bool
is_of p l = same_ip6 p l.who

-- is the listing still a listing at this moment?
abbrev pub is_listed_at : ℕ → Listing → Bool
is_listed_at n l = is_within LISTED_MS n l.peer.touched

-- what is known of p at n, where it is listed
unfoldable pub peer_in : Table → ℕ → Ip6 → Option Peer
peer_in t n p = peer_listed n (find (is_of p) t.listings)

-- what is known of p at n, be it listed or not
abbrev pub known_to : Table → ℕ → Ip6 → Peer
known_to t n p = unwrap_or (peer_in t n p) no_peer

-- WHO IS LISTED AT A MOMENT

-- the addresses, each once
abbrev pub addresses : List Listing → List Ip6
addresses [] = []
addresses (l ∷ ls) = with_peer (Some l.who) (addresses ls)

-- the listed addresses, each once
unfoldable pub listed_in : Table → ℕ → List Ip6
listed_in t n = filter (λ p. is_some (peer_in t n p)) (addresses t.listings)

-- p is listed, or fewer than 256 are
unfoldable pub has_room_in : Table → ℕ → Ip6 → Bool
has_room_in t n p = is_some (peer_in t n p) || nat_lt (length (listed_in t n)) PEERS_MAX

-- how many packets wait for all listed peers, or are held
abbrev pub waiting_in : Table → ℕ → ℕ
waiting_in t n = kept_among (known_to t n) (listed_in t n)

-- the listed peer that is due first, of those whose packets wait
abbrev pub first_due_in : Table → ℕ → Option Listing
first_due_in t n = option_map (λ p. record { who = p; peer = known_to t n p }) (first_among (known_to t n) (listed_in t n))

-- when it is due, and its address
abbrev pub due_and_who : Listing → Millis × Ip6
due_and_who l = (record { 0 = due_of l.peer }, l.who)

-- the earlier of two, of one moment that of the lesser address
abbrev pub earlier_due : Millis × Ip6 → Option (Millis × Ip6) → Millis × Ip6
earlier_due next None = next
earlier_due next (Some first) = if is_lt (ordering_then (nat_cmp first.0.0 next.0.0) (cmp_ip6 first.1 next.1)) then first else next
