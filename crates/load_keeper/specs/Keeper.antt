-- The loads of a history, as they are kept outside of its nodes.
use Rattle.std.specs.Prelude.{◌≡◌, ◌≤◌, ◌<◌, ◌||◌, ℕ, Bool, true, false, nat_eq, if◌then◌else◌, List, length, map, get_or, Option, Some, None, is_some}
use Rattle.std.specs.List.{AllByRecursion}
use Rattle.td_base.specs.declared.endpoint.Ep.{Ep}
use Rattle.td_base.specs.declared.ipv6.Ip6.{Ip6}
use Rattle.teredo_node.specs.declared.fate.Fate.{Fate}
use Rattle.teredo_node.specs.Journal.{Entry}
use Rattle.client_rules.specs.Bearings.{source_of}
use Rattle.topology.specs.Rows.{TopologyState}
use Rattle.topology.specs.declared.node.Node.{Node}
use Rattle.topology.specs.declared.node.Node.TheVariants.{Client as client, Relay as relay}
use Rattle.topology.specs.declared.topology.TheConstants.{NODES_MAX}
use Rattle.topology.specs.Topology.{nodes, node_at}
use Rattle.history.specs.declared.records.Record.{Record}
use Rattle.history.specs.Full.{Full}
use Rattle.history.specs.Records.{record_of}
use Rattle.legal.specs.Past.{now}
use Rattle.legal.specs.Laws.{IsAskedFor}
use Rattle.states.specs.PeerFates.{changes_peer, changes_client}
use Rattle.loads.specs.Numbered.{numbered_mentions}
use Rattle.loads.specs.declared.load.Load.{Load}
use Rattle.loads.specs.Loads.{releases_all, loads}
use Rattle.loads.specs.Sayings.{gives_up}
use Rattle.load_keeper.specs.declared.node_loads.NodeLoads.{NodeLoads}
use Rattle.load_keeper.specs.declared.load_keeper.LoadKeeper.{LoadKeeper}
use Rattle.load_keeper.specs.declared.effect.Effect.{Effect}
use Rattle.load_keeper.specs.declared.effect.Effect.TheVariants.{Queues, Tests, Holds}
use Rattle.load_keeper.specs.Kept.{NodeKept, nothing_kept, node_kept, KeepsLoadsOf}
use Rattle.load_keeper.specs.Hearing.{effect_at, begins_anew, node_after}

-- what the node of a number keeps, if there is one
abbrev pub kept_at : List NodeLoads → Option ℕ → NodeKept
kept_at ns None = nothing_kept
kept_at ns (Some n) = get_or (map node_kept ns) n nothing_kept

-- The keeper has the loads that entries and records of a history carry: of each entry of the wire, and of what waits and is held at
-- each node.
pub record StandsForLoads (t : TopologyState) (k : LoadKeeper) (H : List Full) : Type 0 where
  pub packets : k.packets ≡ (loads t H).packets
  pub wire : k.wire.items ≡ (loads t H).wire
  pub count : length k.nodes.items ≡ length (nodes t)
  pub few : length k.nodes.items ≤ NODES_MAX
  pub each : (n : ℕ) (a : Node) → node_at t n ≡ Some a
      → KeepsLoadsOf (loads t H).records (numbered_mentions H n a) (now H) (kept_at k.nodes.items (Some n))

-- What a record means keeps its packet only where it has one, and holds it only where that came from somewhere.
abbrev pub KeepsItsPacket : Effect → Option (List ℕ) → Option Ep → Type 0
KeepsItsPacket Queues packet from = is_some packet ≡ true
KeepsItsPacket Tests packet from = (is_some packet ≡ true) × (is_some from ≡ true)
KeepsItsPacket Holds packet from = (is_some packet ≡ true) × (is_some from ≡ true)
KeepsItsPacket _ packet from = Unit {0}

-- This is the peer of what a node did, and there its datagram came from; where it did nothing, both are missing.
abbrev pub IsPeerOf : Option Ip6 → Option Ep → Option Entry → Type 0
IsPeerOf peer from None = (peer ≡ None) × (from ≡ None)
IsPeerOf peer from (Some e) = (e.peer ≡ peer) × (source_of e.input ≡ from)

-- What a node did is that of its record; and what that means keeps a packet only where there is one.
abbrev pub IsEntryOf : Effect → Full → Option Entry → Type 0
IsEntryOf x r None = Unit {0}
IsEntryOf x r (Some e) = (e.moment ≡ r.moment) × (e.step.fate ≡ r.fate) × KeepsItsPacket x e.packet (source_of e.input)

-- the node of a number, if there is one
abbrev pub node_if : TopologyState → Option ℕ → Option Node
node_if t None = None
node_if t (Some n) = node_at t n

-- By this fate a record changes what its node keeps of a peer.
abbrev pub changes_at : Option Node → Fate → Bool
changes_at (Some (client c)) f = changes_peer f
changes_at (Some (relay q)) f = changes_client f
changes_at _ f = false

-- The record is of a peer: what waits for it is released or dropped, or what its node keeps of it changes.
abbrev pub is_of_peer : Option Node → Fate → Bool
is_of_peer a f = changes_at a f || (releases_all f || gives_up f)

-- What is told of a record is what it was: its line's record; and where it is of a peer, the peer, and where its datagram came from.
pub record IsToldOf (t : TopologyState) (H : List Full) (r : Full) (said : Record) (peer : Option Ip6) (from : Option Ep) : Type 0 where
  pub told : record_of r ≡ said
  pub later : now H ≤ r.moment
  pub delivers : IsAskedFor H r
  pub entry : IsEntryOf (effect_at (node_if t r.node) r.fate) r r.entry
  pub about : is_of_peer (node_if t r.node) r.fate ≡ true → IsPeerOf peer from r.entry
  pub changed : is_some r.entry ≡ false → begins_anew (node_if t r.node) r.fate ≡ false

-- These are as many lists as there are nodes, no more than a topology has, and hold nothing.
pub record AreEmpty (t : TopologyState) (ns : List NodeLoads) : Type 0 where
  pub count : length ns ≡ length (nodes t)
  pub few : length ns ≤ NODES_MAX
  pub each : AllByRecursion (λ (s : NodeLoads). node_kept s ≡ nothing_kept) ns

-- what each node keeps after a record: that of the record's node, what it keeps then, and every other what it kept
abbrev pub node_after_at : TopologyState → Record → Option Ip6 → Option Ep → Option Load → Option ℕ → ℕ → NodeKept → NodeKept
node_after_at t r peer from l None n s = s
node_after_at t r peer from l (Some k) n s = if nat_eq k n then node_after (node_at t n) r peer from l s else s

-- These lists are what each node keeps after a record.
pub record AreKeptAfter (t : TopologyState) (r : Record) (peer : Option Ip6) (from : Option Ep) (l : Option Load) (old new : List NodeLoads) : Type 0 where
  pub count : length new ≡ length old
  pub each : (n : ℕ) → n < length old → kept_at new (Some n) ≡ node_after_at t r peer from l r.node n (kept_at old (Some n))
