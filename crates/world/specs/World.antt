-- What contracts see of a world, and how `step` follows the history.
use Rattle.std.specs.Prelude.{◌≡◌, ℕ, ◌+◌, ◌<◌, ◌≤◌, if◌then◌else◌, Bool, true, false, List, [], ◌∷◌, length, get_or, sum, sum_by, Option, Some, None}
use Rattle.events.specs.declared.event.Event.{Event}
use Rattle.events.specs.declared.event.Event.TheVariants as event
use Rattle.events.specs.declared.event.TheConstants.{ADVANCE_MAX_MS}
use Rattle.history.specs.declared.records.Record.{Record}
use Rattle.history.specs.declared.turn.Turn.{Turn}
use Rattle.history.specs.declared.turn.Turn.TheVariants.{More, Last}
use Rattle.history.specs.declared.turn.Stop.{Stop}
use Rattle.history.specs.declared.turn.Stop.TheVariants.{WireFull, NoMemory}
use Rattle.topology.specs.Rows.{TopologyState}
use Rattle.topology.specs.Chains.{Behind}
use Rattle.td_chain.specs.Chains.{ChainsState}
use Rattle.history.specs.Full.{Item, Full, wire, items_of}
use Rattle.history.specs.Records.{record_of}
use Rattle.history.specs.Telling.{IsTold}
use Rattle.world.specs.declared.wire.TheConstants.{ENTRIES_MAX}
use Rattle.td_base.specs.declared.millis.TheConstants.{CLOCK_END_MS}
use Rattle.world.specs.declared.going.Going.{Going}
use Rattle.world.specs.declared.going.Going.TheVariants as going_on
use Rattle.legal.specs.Lab.{Draws, Lab, lab_on}
use Rattle.legal.specs.Past.{now, began, has_more, going, was_delivered, armed}
use Rattle.legal.specs.Next.{next_of}
use Rattle.legal.specs.Legal.{Grown}
use Rattle.legal.specs.declared.left.TheConstants.{LEFT_MAX}
use Rattle.legal.specs.Left.{time_left}
use Rattle.weights.specs.Weights.{entry_weight}
use Rattle.weights.specs.Left.{left}
use Rattle.lab_nodes.specs.declared.played_node.PlayedNode.{PlayedNode}
use Rattle.lab_nodes.specs.PlayedNode.{NodesOf}
use Rattle.lab_nodes.specs.DueMoments.{all_played_due}
use Rattle.lab_nodes.specs.Waits.{played_waits}
use Rattle.lab_nodes.specs.Memory.{takes_memory}
use Rattle.world.specs.Emission.{AreNatsWith}
use Rattle.world.specs.Wire.{WireState}

-- what a world keeps, without where it lies in memory
pub record WorldState : Type 0 where
  pub topology : TopologyState
  pub chain : List Behind  -- which NATs are behind others
  pub nats : ChainsState
  pub moment : ℕ
  pub began : ℕ  -- when the event of the next record began
  pub going : Option Event  -- the event that goes on: the next record is of it
  pub armed : Option ℕ  -- the number of the send that fails in the next record with sends
  pub nodes : List PlayedNode
  pub wire : List Item
  pub done : List Bool  -- for each entry of the wire, whether it was delivered
  pub stopped : Option Stop

-- the event that goes on, and when it began
abbrev pub event_in : Option Going → Option Event
event_in None = None
event_in (Some (going_on.Advance began ms)) = Some (event.Advance ms)
event_in (Some going_on.Settle) = Some event.Settle

-- the moment at which the event that goes on began
abbrev pub began_in : ℕ → Option Going → ℕ
began_in m None = m
began_in m (Some (going_on.Advance began ms)) = began.0
began_in m (Some going_on.Settle) = m

-- the state of a world with these parts
abbrev pub state_of : TopologyState → ChainsState → ℕ → Option Going → Option ℕ → List PlayedNode → WireState → Option Stop → WorldState
state_of t nats m g armed nodes wire stopped = record {
  topology = t;
  chain = nats.chain;
  nats = nats;
  moment = m;
  began = began_in m g;
  going = event_in g;
  armed = armed;
  nodes = nodes;
  wire = wire.items;
  done = wire.done;
  stopped = stopped;
}

-- the laboratory that it plays, whose nodes draw these words
abbrev pub lab_in : Draws → WorldState → Lab
lab_in d w = lab_on d w.topology w.chain

-- WHAT IS LEFT

-- for an advance that ends at `end`
abbrev pub left_until : WorldState → ℕ → ℕ
left_until w end = time_left end w.moment (all_played_due w.moment w.nodes)

-- of these entries, which are numbered from i on, those that were never delivered
abbrev pub not_done_from : List Bool → ℕ → List Item → List Item
not_done_from done i [] = []
not_done_from done i (x ∷ xs) = if get_or done i false then not_done_from done (i + 1) xs else x ∷ not_done_from done (i + 1) xs

-- for `settle`: what can follow from all that is undelivered, and from all packets that wait
abbrev pub burden_in : WorldState → ℕ
burden_in w = sum_by (entry_weight w.topology) (not_done_from w.done 0 w.wire) + sum (played_waits w.moment w.nodes)

-- of the event that goes on; as much as may be where none does
abbrev pub left_of : WorldState → Option Event → ℕ
left_of w None = LEFT_MAX
left_of w (Some (event.Advance ms)) = left_until w (w.began + ms)
left_of w (Some event.Settle) = burden_in w
left_of w (Some e) = 0

-- it falls with each further record of an event
abbrev pub left_in : WorldState → ℕ
left_in w = left_of w w.going

-- WHAT A WORLD STANDS FOR

-- *stands for*: a value in memory stands for a history where all that can be seen of it is what the history says.
-- The world stands for a history of its laboratory: one clause a part.
pub record StandsFor (d : Draws) (w : WorldState) (H : List Full) : Type 0 where
  pub grown : Grown (lab_in d w) H
  pub moment : w.moment ≡ now H
  pub began : w.began ≡ began H
  pub going : w.going ≡ going H
  pub nodes : NodesOf (lab_in d w) w.nodes H
  pub nats : AreNatsWith (lab_in d w) H [] w.nats
  pub wire : w.wire ≡ wire H
  pub done : (i : ℕ) → get_or w.done i false ≡ was_delivered i H
  pub armed : w.armed ≡ armed H
  pub left : left (lab_in d w) H ≡ left_in w
  pub most : left_in w ≤ LEFT_MAX

-- WHAT A STEP DOES

-- an event that goes on comes again
abbrev pub IsAgain : Option Event → Event → Type 0
IsAgain None e = Unit {0}
IsAgain (Some before) e = e ≡ before

-- an advance, which began at this moment, ends before the last moment that a world reaches
abbrev pub EndsInTime : ℕ → Event → Type 0
EndsInTime began (event.Advance ms) = began + ms < CLOCK_END_MS
EndsInTime began _ = Unit {0}

-- the record that a step gave
abbrev pub record_in : Turn → Record
record_in (More r) = r
record_in (Last r) = r

-- has the event further records?
abbrev pub is_more : Turn → Bool
is_more (More r) = true
is_more (Last r) = false

-- the event that goes on after a turn
abbrev pub going_after : Event → Turn → Option Event
going_after e (More r) = Some e
going_after e (Last r) = None

-- after a record that has further ones, less is left
abbrev pub Falls : WorldState → WorldState → Turn → Type 0
Falls old new (More r) = left_in new < left_in old
Falls old new (Last r) = Unit {0}

-- The step gave the record that follows for its event, and the world then stands for the history with it.
pub record Steps (old new : WorldState) (index : ℕ) (event : Event) (turn : Turn) : Type 0 where
  pub topology : new.topology ≡ old.topology
  pub chain : new.chain ≡ old.chain
  pub goes_on : new.stopped ≡ None
  pub going : new.going ≡ going_after event turn
  pub record_is : (d : Draws) (H : List Full) → StandsFor d old H → record_in turn ≡ record_of (next_of (lab_in d old) H index event)
  pub stands : (d : Draws) (H : List Full) → StandsFor d old H → StandsFor d new (next_of (lab_in d old) H index event ∷ H)
  -- the event has further records exactly where the turn says so
  pub more : (d : Draws) (H : List Full) → StandsFor d old H → has_more event (next_of (lab_in d old) H index event).act ≡ is_more turn
  pub tells : (d : Draws) (H : List Full) → StandsFor d old H → IsTold (next_of (lab_in d old) H index event)
  -- | What is left of an event falls with each further record, and an event lasts as long as an advance at most. What
  --   is left of an advance is read off what the nodes keep; of a `settle` it is the weights of the entries that
  --   weren't delivered and of the packets that wait in the nodes: each delivery lowers it. For every history that the
  --   world stands for it is exactly what `weights` says (`weights/Left.antt`), and never above 2^45. It is stated in
  --   `World.antt`, with `lab_nodes/DueMoments.antt` and `lab_nodes/Waits.antt`.
  pub falls : (d : Draws) (H : List Full) → StandsFor d old H → Falls old new turn
  -- | See `Steps`: `falls`.
  pub time : new.moment ≤ old.began + ADVANCE_MAX_MS
  -- | See `World::step`: `cause`.
  pub entries : length new.wire ≤ ENTRIES_MAX

-- WHY IT STOPS

-- the record would make too long a wire
abbrev pub Overflows : WorldState → Full → Type 0
Overflows w r = ENTRIES_MAX < length w.wire + length (items_of r)

-- it has a mark, or such a fate: at no other record memory is needed
abbrev pub NeedsMemory : Full → Type 0
NeedsMemory r = r.made ≡ [] → takes_memory r.fate ≡ true

-- why a world stopped at this record: the wire would be too long, or memory ran out
abbrev pub IsCause : WorldState → Full → Stop → Type 0
IsCause w r WireFull = Overflows w r
IsCause w r NoMemory = NeedsMemory r

-- why a world stops that hadn't stopped before: for the record that follows
abbrev pub StopsFor : WorldState → ℕ → Event → Stop → Type 0
StopsFor w index event stop = (d : Draws) (H : List Full) → StandsFor d w H → IsCause w (next_of (lab_in d w) H index event) stop

-- What stays where it stops. Of time nothing is promised: it may have passed already.
pub record StopsAs (old new : WorldState) (stop : Stop) : Type 0 where
  pub topology : new.topology ≡ old.topology
  pub chain : new.chain ≡ old.chain
  pub wire : new.wire ≡ old.wire
  pub done : new.done ≡ old.done
  pub armed : new.armed ≡ old.armed
  pub stopped : new.stopped ≡ Some stop
