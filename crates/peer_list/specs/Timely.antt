-- A listed peer is still listed when it is due: what is so of whatever a table keeps.
use Rattle.std.specs.Prelude.{◌≡◌, ◌≤◌, ◌<◌, ◌+◌, ℕ, max, Option, Some, IfSome}
use Rattle.td_base.specs.declared.ipv6.Ip6.{Ip6}
use Rattle.td_base.specs.declared.millis.Millis.{Millis}
use Rattle.peer_list.specs.declared.entries.Entries.{Entries}
use Rattle.peer_list.specs.declared.limits.TheConstants.{TRY_GAP_MS}
use Rattle.peer_list.specs.Peers.{Peer}
use Rattle.peer_list.specs.Judged.{due_of}
use Rattle.peer_list.specs.Table.{Table, table, peer_in}
use Rattle.peer_list.specs.Overdue.{overdue_in}
use Rattle.peer_list.specs.Entries.{listings_of, AreKept}

-- touched at m or before, and due a gap after that or before
pub record IsTimely (m : ℕ) (peer : Peer) : Type 0 where
  pub touched : ℕ
  pub at : peer.touched ≡ Some touched
  pub past : touched ≤ m
  pub due : due_of peer ≤ touched + TRY_GAP_MS

-- each listed peer of a table is so, at the table's moment
abbrev pub AreTimely : Table → Type 0
AreTimely t = (p : Ip6) (peer : Peer) → peer_in t t.moment p ≡ Some peer → IsTimely t.moment peer

-- what stands of a table's entries at its moment
pub record IsKeptTimely (e : Entries) (m : ℕ) : Type 0 where
  pub kept : AreKept e m
  pub timely : AreTimely (table m (listings_of e))

-- whoever is due first at n: packets that wait are due when it is, or at n where that is past
abbrev pub FirstLasts : Table → ℕ → Option (Millis × Ip6) → Type 0
FirstLasts t n due = IfSome due (λ (first : Millis × Ip6). 0 < overdue_in t (max n first.0.0))
