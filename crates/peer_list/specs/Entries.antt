-- How the entries of the listed peers stand: slab and index, and the order in which they are due.
use Rattle.std.specs.Prelude.{◌≡◌, ◌≤◌, ℕ, Bool, true, false, not, if◌then◌else◌, nat_eq, List, [], ◌∷◌, length, filter, Option, Some, None, is_some}
use Rattle.std.specs.List.{AllByRecursion, count_by, filter_map}
use Rattle.std.specs.List.Sorted.{IsPartitionPoint}
use Rattle.std.specs.BTreeMap.{BTreeMap, IsOrdered}
use Rattle.std.specs.BTreeMap as map
use Rattle.std.specs.Vec.{vec_capacity}
use Rattle.slab.specs.Slab.{Slab, get}
use Rattle.slab.specs.Slab as slab
use Rattle.td_base.specs.Ip6.{same_ip6, cmp_ip6}
use Rattle.td_base.specs.declared.ipv6.Ip6.{Ip6}
use Rattle.td_base.specs.declared.millis.Millis.{Millis}
use Rattle.peer_list.specs.declared.entries.Entries.{Entries}
use Rattle.peer_list.specs.declared.limits.TheConstants.{PEERS_MAX}
use Rattle.peer_list.specs.Peers.{Peer}
use Rattle.peer_list.specs.Judged.{is_none}
use Rattle.peer_list.specs.Waiting.{Listing}
use Rattle.peer_list.specs.Table.{due_and_who}
use Rattle.peer_list.specs.Sound.{IsSince, is_before}

-- SLAB AND INDEX

-- the entries in the order of their addresses
abbrev pub listings_in : Slab Listing → List (Ip6 × ℕ) → List Listing
listings_in s pairs = filter_map (λ (pair : Ip6 × ℕ). get s pair.1) pairs

-- what is kept of each peer
abbrev pub listings_of : Entries → List Listing
listings_of e = listings_in e.slab e.index.entries

-- the key that an address has, and its entry
abbrev pub key_of : Entries → Ip6 → Option ℕ
key_of e p = map.get cmp_ip6 e.index p

-- the listing under a key, if there is one
abbrev pub entry_under : Slab Listing → Option ℕ → Option Listing
entry_under s None = None
entry_under s (Some key) = get s key

-- the listing of an address, if there is one
abbrev pub entry_for : Entries → Ip6 → Option Listing
entry_for e p = entry_under e.slab (key_of e p)

-- an address of the index leads to its entry
pub record Leads (s : Slab Listing) (pair : Ip6 × ℕ) : Type 0 where
  pub listing : Listing
  pub at : get s pair.1 ≡ Some listing
  pub who : listing.who ≡ pair.0

-- slab and index name each other
pub record NameEachOther (s : Slab Listing) (index : BTreeMap Ip6 ℕ) : Type 0 where
  pub leads : AllByRecursion (Leads s) index.entries
  pub named : (key : ℕ) (l : Listing) → get s key ≡ Some l → map.get cmp_ip6 index l.who ≡ Some key
  pub order : IsOrdered cmp_ip6 index
  pub few : length index.entries ≤ PEERS_MAX

-- THE ORDER IN WHICH THEY ARE DUE

-- when an entry is due, and its address; nothing where no packets wait
abbrev pub entry_due : Option Listing → Option (Millis × Ip6)
entry_due None = None
entry_due (Some l) = if is_none l.peer.waiting then None else Some (due_and_who l)

-- what is due comes before what is due later, or not at all
abbrev pub is_sooner : Option (Millis × Ip6) → Option (Millis × Ip6) → Bool
is_sooner None first = false
is_sooner (Some next) first = is_before next first

-- none is due before one in front of it
abbrev pub AreInTurn : Slab Listing → List ℕ → Type 0
AreInTurn s [] = Unit {0}
AreInTurn s (key ∷ keys) = AllByRecursion (λ later. is_sooner (entry_due (get s later)) (entry_due (get s key)) ≡ false) keys × AreInTurn s keys

-- the entries of all keys before a place aren't due later than what is due next, and those of all from there on are
abbrev pub IsPlaceFor : Slab Listing → List ℕ → Millis × Ip6 → ℕ → Type 0
IsPlaceFor s keys next i =
    IsPartitionPoint (λ other. not (is_before next (entry_due (get s other))) ≡ true) (λ other. not (is_before next (entry_due (get s other))) ≡ false) keys i

-- the keys of the entries for which packets wait, each once
abbrev pub AreDueOnce : Slab Listing → List ℕ → Type 0
AreDueOnce s keys = (key : ℕ) → count_by (nat_eq key) keys ≡ (if is_some (entry_due (get s key)) then 1 else 0)

-- the same, but for a key whose entry was changed: that stands there as the entry was due before
abbrev pub AreDueButOnce : Slab Listing → ℕ → Option (Millis × Ip6) → List ℕ → Type 0
AreDueButOnce s changed before keys =
    (key : ℕ) → count_by (nat_eq key) keys ≡ (if is_some (if nat_eq key changed then before else entry_due (get s key)) then 1 else 0)

-- the keys but one
abbrev pub keys_without : ℕ → List ℕ → List ℕ
keys_without key keys = filter (λ other. not (nat_eq other key)) keys

-- ALL IN ONE

-- the parts of the table agree: each listing is found under its address, and stands once in the order of what is due
pub record AreWhole (e : Entries) : Type 0 where
  pub names : NameEachOther e.slab e.index
  pub once : AreDueOnce e.slab e.order.items
  pub turn : AreInTurn e.slab e.order.items
  pub room : length e.index.entries ≤ vec_capacity e.order

-- one key may stand where it doesn't belong, or in no place: its entry was due otherwise before
pub record AreWholeBut (e : Entries) (key : ℕ) (before : Option (Millis × Ip6)) : Type 0 where
  pub names : NameEachOther e.slab e.index
  pub there : is_some (get e.slab key) ≡ true
  pub once : AreDueButOnce e.slab key before e.order.items
  pub turn : AreInTurn e.slab (keys_without key e.order.items)
  pub room : length e.index.entries ≤ vec_capacity e.order

-- no entry was touched before m
abbrev pub IsSinceAll : ℕ → Slab Listing → Type 0
IsSinceAll m s = (key : ℕ) (l : Listing) → get s key ≡ Some l → IsSince m l.peer.touched

-- at the moment m
pub record AreKept (e : Entries) (m : ℕ) : Type 0 where
  pub whole : AreWhole e
  pub touched : IsSinceAll e.touched.0 e.slab
  pub past : e.touched.0 ≤ m

-- an entry for which packets wait, due so
pub record IsFirstOf (e : Entries) (x : Millis × Ip6) : Type 0 where
  pub key : ℕ
  pub listing : Listing
  pub at : get e.slab key ≡ Some listing
  pub waits : is_none listing.peer.waiting ≡ false
  pub is : due_and_who listing ≡ x

-- WHAT A CHANGE LEAVES

-- a listing with what is known of its peer now
abbrev pub with_peer_at : Listing → Peer → Listing
with_peer_at l peer = record { who = l.who; peer = peer }

-- an entry has another peer
pub record IsAfter (old new : Entries) (key : ℕ) (l : Listing) (peer : Peer) : Type 0 where
  pub was : get old.slab key ≡ Some l
  pub slab : new.slab ≡ slab.with_value old.slab key (with_peer_at l peer)
  pub index : new.index ≡ old.index
  pub touched : new.touched ≡ old.touched

-- WHAT AN ADDITION LEAVES

-- one entry more, under a key of its own
pub record Adds (old new : Entries) (l : Listing) : Type 0 where
  pub key : ℕ
  pub vacant : get old.slab key ≡ None
  pub slab : slab.Updates old.slab new.slab key (Some l)
  pub index : (p : Ip6) → key_of new p ≡ (if same_ip6 p l.who then Some key else key_of old p)

-- each address leads to what it led to
pub record SameEntries (old new : Entries) : Type 0 where
  pub slots : new.slab.slots ≡ old.slab.slots
  pub pairs : new.index.entries ≡ old.index.entries
