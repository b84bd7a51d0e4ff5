-- How much is due of the peers that a table lists (RFC 4380, section 5.2.6).
use Rattle.std.specs.Prelude.{◌≡◌, ◌≤◌, ◌<◌, ℕ, true, false, nat_le, find, if◌then◌else◌, Option, Some, None, is_some}
use Rattle.td_base.specs.declared.ipv6.Ip6.{Ip6}
use Rattle.peer_list.specs.Peers.{Peer, no_peer}
use Rattle.peer_list.specs.Judged.{is_none, due_of}
use Rattle.peer_list.specs.Waiting.{Listing, waiting_among}
use Rattle.peer_list.specs.Table.{Table, while_listed, is_of, peer_in, known_to, listed_in, first_due_in}
use Rattle.peer_list.specs.Calls.{Updates}

-- when the next try at a listed peer is due
abbrev pub due_moment : Listing → ℕ
due_moment l = due_of l.peer

-- nothing is due before m
abbrev pub IsNoSooner : ℕ → Option ℕ → Type 0
IsNoSooner m None = Unit {0}
IsNoSooner m (Some due) = m ≤ due

-- something is due before m
abbrev pub IsSooner : ℕ → Option ℕ → Type 0
IsSooner m None = ⊥
IsSooner m (Some due) = due < m

-- packets wait for a peer that a table keeps, be it still listed or not, and that is due before m
pub record IsKeptDue (t : Table) (m : ℕ) : Type 0 where
  pub listing : Listing
  pub kept : find (is_of listing.who) t.listings ≡ Some listing
  pub waits : is_none listing.peer.waiting ≡ false
  pub before : due_of listing.peer < m

-- a peer whose next try is due at n, else one for whom nothing waits
abbrev pub while_due : ℕ → Peer → Peer
while_due n peer = if nat_le (due_of peer) n then peer else no_peer

-- how many packets wait at n for listed peers whose next try is due then
unfoldable pub overdue_in : Table → ℕ → ℕ
overdue_in t n = waiting_among (λ p. while_due n (known_to t n p)) (listed_in t n)

-- WHO IS DUE

-- the peer that is due first, where it is due at n
abbrev pub due_by : ℕ → Option Listing → Option Listing
due_by n None = None
due_by n (Some l) = if nat_le (due_of l.peer) n then Some l else None

-- an address, and what is known of it at n
abbrev pub listing_at : Table → ℕ → Ip6 → Listing
listing_at t n who = record { who = who; peer = known_to t n who }

-- it is listed at n, and packets wait for it that are due then
pub record IsOverdue (t : Table) (n : ℕ) (who : Ip6) : Type 0 where
  pub listed : is_some (peer_in t n who) ≡ true
  pub waits : is_none (known_to t n who).waiting ≡ false
  pub due : due_of (known_to t n who) ≤ n

-- HOW MUCH IS DUE

-- where nothing waits at n, nothing is due from then on
abbrev pub NothingOverdue : Type 0
NothingOverdue = (t : Table) (n m : ℕ) → n ≤ m → first_due_in t n ≡ None → overdue_in t m ≡ 0

-- the peer that is due first at n: what is known of it, and when something is due
pub record IsFirstOverdue (t : Table) (n : ℕ) (l : Listing) : Type 0 where
  pub peer : l.peer ≡ known_to t n l.who
  pub listed : is_some (peer_in t n l.who) ≡ true
  pub waits : is_none (known_to t n l.who).waiting ≡ false
  pub before : (m : ℕ) → n ≤ m → m < due_of l.peer → overdue_in t m ≡ 0
  pub now : due_of l.peer ≤ n → 0 < overdue_in t n

-- nothing is due before the peer that is due first
abbrev pub FirstOverdue : Type 0
FirstOverdue = (t : Table) (n : ℕ) (l : Listing) → first_due_in t n ≡ Some l → IsFirstOverdue t n l

-- packets wait for a peer that is due at n, and after a call none do, or it isn't due any more
pub record IsPutOff (t : Table) (n : ℕ) (who : Ip6) (peer : Peer) : Type 0 where
  pub listed : is_some (peer_in t n who) ≡ true
  pub waits : is_none (known_to t n who).waiting ≡ false
  pub due : due_of (known_to t n who) ≤ n
  pub stays : while_listed n peer ≡ Some peer
  pub over : is_none (while_due n peer).waiting ≡ true

-- then less is due
abbrev pub LessOverdue : Type 0
LessOverdue = (old new : Table) (n : ℕ) (who : Ip6) (peer : Peer) → IsPutOff old n who peer → Updates old new n who peer → overdue_in new n < overdue_in old n
