-- The table of a NAT: the latest outward datagram of each port, and where the place of a key is.
use Rattle.std.specs.Prelude.{◌≡◌, ◌==◌, ℕ, ◌+◌, ◌-◌, ◌<◌, ◌≤◌, Bool, true, false, nat_lt, if◌then◌else◌, List, length, find, slice_get, Option, Some, None}
use Rattle.std.specs.Map.{lookup}
use Rattle.td_base.specs.Ep.{same_ep}
use Rattle.td_base.specs.declared.endpoint.Ep.{Ep}
use Rattle.nat_kinds.specs.declared.limits.TheConstants.{FIRST_PORT, MAPPINGS_MAX}
use Rattle.nat_kinds.specs.declared.kind.NatKind.{NatKind}
use Rattle.nat_kinds.specs.declared.outgoing.Outward.{Outward}
use Rattle.nat_kinds.specs.declared.way.Way.{Way}
use Rattle.nat_kinds.specs.History.{is_young}
use Rattle.nat_kinds.specs.Mappings.{has_key}
use Rattle.nat_kinds.specs.Way.{same_way, key_way}

-- what stands in a place, if there is one
abbrev pub in_place : Option (Option Outward) → Option Outward
in_place None = None
in_place (Some o) = o

-- the latest datagram of a port: place i is that of port FIRST_PORT + i
abbrev pub place_at : List (Option Outward) → ℕ → Option Outward
place_at places port = if nat_lt port FIRST_PORT then None else in_place (slice_get places (port - FIRST_PORT))

-- the same, had this datagram been sent from its port
abbrev pub place_with : List (Option Outward) → Outward → ℕ → Option Outward
place_with places e port = if port == e.port then Some e else place_at places port

-- it, where it is less than idle old at n
abbrev pub if_young : ℕ → ℕ → Option Outward → Option Outward
if_young idle n None = None
if_young idle n (Some e) = if is_young idle n e then Some e else None

-- it, where it has another key than this datagram
abbrev pub unless_key : NatKind → Outward → Option Outward → Option Outward
unless_key kind e None = None
unless_key kind e (Some x) = if has_key kind e.inside e.dst x then None else Some x

-- it, where it is of another inside endpoint
abbrev pub unless_of : Ep → Option Outward → Option Outward
unless_of who None = None
unless_of who (Some x) = if same_ep x.inside who then None else Some x

-- the key of a datagram
abbrev pub way_of : NatKind → Outward → Way
way_of kind e = key_way kind e.inside e.dst

-- the port at which an index has a key
abbrev pub indexed : List (Way × ℕ) → Way → Option ℕ
indexed index key = lookup (same_way key) index

-- what stands at a port p, where it isn't that of this place
abbrev pub unless_at : Option ℕ → ℕ → Option Outward → Option Outward
unless_at None p o = o
unless_at (Some port) p o = if port == p then None else o

-- what an index has at a key, where that isn't the key of what stands in this place
abbrev pub unless_way : NatKind → Option Outward → Way → Option ℕ → Option ℕ
unless_way kind None key r = r
unless_way kind (Some x) key r = if same_way (way_of kind x) key then None else r

-- what is had at a key, where that is of another inside endpoint
abbrev pub unless_in : {X : Type 0} → Ep → Way → Option X → Option X
unless_in who key r = if same_ep key.inside who then None else r

-- there is a place for this port, and the port is one that a NAT gives
abbrev pub IsPlace : List (Option Outward) → ℕ → Type 0
IsPlace places port = (FIRST_PORT ≤ port) × (port < FIRST_PORT + length places)

-- the port has a place, or gets the next one
abbrev pub IsNext : List (Option Outward) → ℕ → Type 0
IsNext places port = (FIRST_PORT ≤ port) × (port ≤ FIRST_PORT + length places) × (port < FIRST_PORT + MAPPINGS_MAX)

-- a datagram of this key stands there
abbrev pub has_key_in : NatKind → Ep → Ep → Option Outward → Bool
has_key_in kind inside dst None = false
has_key_in kind inside dst (Some e) = has_key kind inside dst e

-- there is a place for a datagram of this key at this port, and room in the index where it isn't its key's already
abbrev pub HasRoom : NatKind → List (Option Outward) → ℕ → ℕ → Ep → Ep → Type 0
HasRoom kind places spare port inside dst = IsPlace places port × (has_key_in kind inside dst (place_at places port) ≡ false → 0 < spare)

-- *shows*: what a table of the latest datagram of each port says of the datagrams that count: the latest of each port.
-- these are what counts at n, as far as a search by port sees
abbrev pub Shows : ℕ → ℕ → List (Option Outward) → List Outward → Type 0
Shows idle n places outs = (port : ℕ) → if_young idle n (place_at places port) ≡ find (λ e. port == e.port) outs

-- the index has the key of each datagram of the table at its port, and no other key; and there are few places
pub record IsIndexed (kind : NatKind) (places : List (Option Outward)) (index : List (Way × ℕ)) : Type 0 where
  pub there : (port : ℕ) (e : Outward) → place_at places port ≡ Some e → indexed index (way_of kind e) ≡ Some port
  pub back : (key : Way) (port : ℕ) → indexed index key ≡ Some port → (e : Outward) × (place_at places port ≡ Some e) × (way_of kind e ≡ key)
  pub few : length places ≤ MAPPINGS_MAX

-- new is old but for this port
abbrev pub IsSetAt : List (Option Outward) → List (Option Outward) → ℕ → Option Outward → Type 0
IsSetAt old new port o = (p : ℕ) → place_at new p ≡ (if port == p then o else place_at old p)

-- new has the datagram at its port, and no other of its key
abbrev pub IsPutIn : NatKind → List (Option Outward) → List (Option Outward) → Outward → Type 0
IsPutIn kind old new e = (p : ℕ) → place_at new p ≡ (if e.port == p then Some e else unless_key kind e (place_at old p))

-- the places with this key hold it, at this port, and it is young
abbrev pub IsLiveAt : NatKind → ℕ → ℕ → List (Option Outward) → Ep → Ep → ℕ → Type 0
IsLiveAt kind idle n places inside dst port = (e : Outward) × (place_at places port ≡ Some e) × (has_key kind inside dst e ≡ true) × (is_young idle n e ≡ true)

-- no place holds a young datagram of this key
abbrev pub HasNoLive : NatKind → ℕ → ℕ → List (Option Outward) → Ep → Ep → Type 0
HasNoLive kind idle n places inside dst = (port : ℕ) (e : Outward) → place_at places port ≡ Some e
    → has_key kind inside dst e ≡ true → is_young idle n e ≡ false

-- the port holds no young datagram
abbrev pub IsFree : ℕ → ℕ → List (Option Outward) → ℕ → Type 0
IsFree idle n places port = if_young idle n (place_at places port) ≡ None
