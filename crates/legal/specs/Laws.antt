-- What holds of every record that follows, whatever nodes there are.
use Rattle.std.specs.Prelude.{◌≡◌, ◌⊎◌, ◌≤◌, ◌<◌, ◌+◌, ◌-◌, ℕ, Bool, true, false, List, ◌∷◌, ◌++◌, length, slice_get, Some, None}
use Rattle.events.specs.declared.event.Event.{Event}
use Rattle.events.specs.declared.event.Event.TheVariants as event
use Rattle.events.specs.declared.event.TheConstants.{ADVANCE_MAX_MS}
use Rattle.history.specs.declared.act.Act.{Act}
use Rattle.history.specs.declared.act.Act.TheVariants as act
use Rattle.history.specs.Full.{Full, wire, items_of}
use Rattle.history.specs.Telling.{IsTold}
use Rattle.nat_kinds.specs.Laws.{IsPast}
use Rattle.teredo_node.specs.Journal.{Journal}
use Rattle.qualify.specs.declared.settings.Settings.{Settings}
use Rattle.client_rules.specs.Journals as client_journals
use Rattle.relay_rules.specs.Standing.{RelaySettings}
use Rattle.relay_rules.specs.Journals.{IsRelayJournal, relay_last_moment}
use Rattle.topology.specs.declared.nat_node.NatNode.{NatNode}
use Rattle.topology.specs.declared.client_node.ClientNode.{ClientNode}
use Rattle.topology.specs.declared.relay_node.RelayNode.{RelayNode}
use Rattle.topology.specs.declared.node.Node.TheVariants.{Client as client, Relay as relay}
use Rattle.topology.specs.Topology.{node_at, nat_at, nat_settings}
use Rattle.topology.specs.Rules.{IsTopology}
use Rattle.legal.specs.Settings.{client_settings, relay_settings}
use Rattle.legal.specs.Past.{now, began, has_more, journal, nat_history}
use Rattle.legal.specs.Next.{next_of}
use Rattle.legal.specs.Kinds.{Delivers}
use Rattle.legal.specs.Legal.{Follows, Grown}
use Rattle.legal.specs.declared.left.TheConstants.{LEFT_MAX}
use Rattle.legal.specs.Left.{left_to}
use Rattle.legal.specs.Lab.{Lab}

-- the record after H is of event number i, and its entries come behind those of the wire
pub record IsOf (H : List Full) (i : ℕ) (e : Event) (r : Full) : Type 0 where
  pub event : r.event ≡ i
  pub asked : r.asked ≡ e
  pub first : r.first ≡ length (wire H)

-- each record that follows is of the event that was asked for
abbrev pub EachIsOfItsEvent : Type 0
EachIsOfItsEvent = (lab : Lab) (H : List Full) (i : ℕ) (e : Event) → IsOf H i e (next_of lab H i e)

-- an act that delivers is of an event that asks for this entry, which was delivered where it is there; no other act delivers any
abbrev pub is_delivering : Act → Bool
is_delivering (act.Deliver number) = true
is_delivering _ = false

-- what a record delivers is what its event asks for; no other record delivers anything
pub data IsAskedFor (H : List Full) (r : Full) : Type 0 where
  delivers : (number : ℕ) → r.act ≡ act.Deliver number → Delivers H r.asked number
      → (r.delivered ≡ Some number) ⊎ ((slice_get (wire H) number ≡ None) × (r.delivered ≡ None)) → IsAskedFor H r
  others : is_delivering r.act ≡ false → r.delivered ≡ None → IsAskedFor H r

-- a record that delivers an entry is of an event that asks for it; of one that isn't there nothing is delivered
abbrev pub EachIsAskedFor : Type 0
EachIsAskedFor = (lab : Lab) (H : List Full) (r : Full) → Follows lab H r → IsAskedFor H r

-- moments don't fall: it happens at the moment of the record before it, or later
abbrev pub EachIsLater : Type 0
EachIsLater = (lab : Lab) (H : List Full) (r : Full) → Grown lab (r ∷ H) → now H ≤ r.moment

-- nothing but an advance takes time
abbrev pub is_advance : Event → Bool
is_advance (event.Advance ms) = true
is_advance _ = false

-- no other event but these has further records
abbrev pub may_go_on : Event → Bool
may_go_on (event.Advance ms) = true
may_go_on event.Settle = true
may_go_on _ = false

-- so a delivery, a packet of a host and a stranger's datagram happen at the moment of the record before them
abbrev pub EachIsAtOnce : Type 0
EachIsAtOnce = (lab : Lab) (H : List Full) (r : Full) → Follows lab H r → is_advance r.asked ≡ false → r.moment ≡ now H

-- *maker of an entry*: the record that made it; it has one.
-- the records split at one of them, which made entry number n of the wire
pub record Makes (H : List Full) (n : ℕ) (later : List Full) (maker : Full) (earlier : List Full) : Type 0 where
  pub split : H ≡ later ++ maker ∷ earlier
  pub begins : length (wire earlier) ≤ n
  pub ends : n < length (wire (maker ∷ earlier))

-- entry number n of the wire has a maker, of whose items it is the one at that place, and no other
pub record HasOneMaker (H : List Full) (n : ℕ) : Type 0 where
  pub later : List Full
  pub maker : Full
  pub earlier : List Full
  pub makes : Makes H n later maker earlier
  pub first : maker.first ≡ length (wire earlier)
  pub item : slice_get (items_of maker) (n - length (wire earlier)) ≡ slice_get (wire H) n
  pub only : (l e : List Full) (r : Full) → Makes H n l r e → (l ≡ later) × (r ≡ maker) × (e ≡ earlier)

-- each entry of the wire has
abbrev pub EachHasOneMaker : Type 0
EachHasOneMaker = (lab : Lab) (H : List Full) (n : ℕ) → Grown lab H → n < length (wire H) → HasOneMaker H n

-- it says that an entry was delivered exactly where one was
abbrev pub EachIsTold : Type 0
EachIsTold = (lab : Lab) (H : List Full) (i : ℕ) (e : Event) → IsTold (next_of lab H i e)

-- a NAT's history in a history of its topology is one that the laws of NATs speak of: each datagram left from the port
-- that the history before it answers, and moments don't fall
abbrev pub EachNatIsPast : Type 0
EachNatIsPast = (lab : Lab) (H : List Full) (k : ℕ) (a : NatNode) → Grown lab H → nat_at lab.topology k ≡ Some a
    → IsPast (nat_settings a) (nat_history lab k H) (now H)

-- a journal of a client, the moment m being none before its latest entry
pub record IsOfClient (s : Settings) (j : Journal) (m : ℕ) : Type 0 where
  pub journal : client_journals.IsJournal s j
  pub moments : client_journals.last_moment j.start j.entries ≤ m

-- a client's journal in a history of its topology is one that the laws of clients speak of
abbrev pub EachClientIsJournal : Type 0
EachClientIsJournal = (lab : Lab) (H : List Full) (n : ℕ) (c : ClientNode) → Grown lab H
    → node_at lab.topology n ≡ Some (client c) → IsOfClient (client_settings lab.topology c) (journal n H) (now H)

-- a journal of a relay
pub record IsOfRelay (s : RelaySettings) (j : Journal) (m : ℕ) : Type 0 where
  pub journal : IsRelayJournal s j.entries
  pub moments : relay_last_moment j.entries ≤ m

-- and a relay's one that the laws of relays speak of
abbrev pub EachRelayIsJournal : Type 0
EachRelayIsJournal = (lab : Lab) (H : List Full) (n : ℕ) (r : RelayNode) → Grown lab H
    → node_at lab.topology n ≡ Some (relay r) → IsOfRelay (relay_settings lab.topology n r) (journal n H) (now H)

-- after a tick of an advance that goes on, less is left of it
abbrev pub EachAdvanceFalls : Type 0
EachAdvanceFalls = (lab : Lab) (H : List Full) (r : Full) (ms : ℕ) → IsTopology lab.topology → Grown lab H → Follows lab H r
    → r.asked ≡ event.Advance ms → has_more r.asked r.act ≡ true → left_to lab (r ∷ H) (began H + ms) < left_to lab H (began H + ms)

-- and no more than this where one begins
abbrev pub EachAdvanceIsBounded : Type 0
EachAdvanceIsBounded = (lab : Lab) (H : List Full) (ms : ℕ) → IsTopology lab.topology → Grown lab H → ms ≤ ADVANCE_MAX_MS
    → left_to lab H (now H + ms) ≤ LEFT_MAX
