-- What one event does to a world, for the contracts of private functions.
use Rattle.std.specs.Prelude.{◌≡◌, ◌≤◌, ◌<◌, ◌+◌, ◌||◌, Bool, true, false, ℕ, max, List, [], ◌++◌, ◌∷◌, get_or, length, Option, Some, None, Result, Ok, Err}
use Rattle.events.specs.declared.event.Event.{Event}
use Rattle.history.specs.declared.records.Record.{Record}
use Rattle.history.specs.declared.turn.Turn.{Turn}
use Rattle.history.specs.declared.turn.Turn.TheVariants.{More, Last}
use Rattle.history.specs.declared.turn.Stop.{Stop}
use Rattle.topology.specs.Rows.{TopologyState}
use Rattle.topology.specs.declared.topology.TheConstants.{NODES_MAX}
use Rattle.topology.specs.Rules.{IsTopology}
use Rattle.teredo_node.specs.Journal.{ticked}
use Rattle.topology.specs.declared.node.Node.{Node}
use Rattle.history.specs.declared.act.Act.{Act}
use Rattle.history.specs.declared.act.Act.TheVariants as act
use Rattle.history.specs.Full.{Full, wire, items_of}
use Rattle.history.specs.Records.{record_of}
use Rattle.td_chain.specs.Chains.{ChainsState}
use Rattle.legal.specs.Lab.{Draws, Lab}
use Rattle.legal.specs.Past.{has_more, is_number, armed}
use Rattle.legal.specs.Next as next
use Rattle.legal.specs.Next.{Numbered, acts, no_ep}
use Rattle.world.specs.declared.going.Going.{Going}
use Rattle.world.specs.declared.going.Going.TheVariants as going_on
use Rattle.world.specs.declared.prompt.Prompt.{Prompt}
use Rattle.world.specs.Prompt.{delivered_by, input_by, dst_by}
use Rattle.topology.specs.Topology.{nodes}
use Rattle.lab_nodes.specs.declared.due.Due.{Due}
use Rattle.lab_nodes.specs.Due.{due_as}
use Rattle.lab_nodes.specs.declared.played_node.PlayedNode.{PlayedNode}
use Rattle.td_base.specs.declared.millis.TheConstants.{CLOCK_END_MS}
use Rattle.lab_nodes.specs.PlayedNode.{AreOf, NodesOf, AreReady}
use Rattle.world.specs.Emission.{AreNatsWith}
use Rattle.world.specs.World.{WorldState, lab_in, going_after, is_more, record_in}
use Rattle.world.specs.Halted.{Stops}

-- WHAT A WORLD KEEPS TO

-- an advance that goes on isn't over
abbrev pub IsGoing : ℕ → Option Going → Type 0
IsGoing m None = Unit {0}
IsGoing m (Some (going_on.Advance began ms)) = m ≤ began.0 + ms
IsGoing m (Some going_on.Settle) = Unit {0}

-- what is kept of a world belongs together: the nodes are those of the topology, and the NATs those of the chain
pub record IsWorld (t : TopologyState) (nats : ChainsState) (m : ℕ) (g : Option Going) (nodes : List PlayedNode) : Type 0 where
  pub rules : IsTopology t
  pub same : nats.topology ≡ t
  pub clock : nats.moment ≤ m  -- no NAT was called later
  pub rows : AreOf t nodes
  pub few : length nodes ≤ NODES_MAX
  pub ready : AreReady m nodes
  pub early : m < CLOCK_END_MS
  pub going : IsGoing m g

-- THE RECORDS

-- a node of a world acts by a prompt
abbrev pub prompted : Draws → WorldState → List Full → Numbered → Act → Prompt → ℕ → Node → Full
prompted d w H e a prompt number node = acts (lab_in d w) H e a (delivered_by prompt) w.moment number
    (dst_by w.wire prompt) (input_by w.wire prompt) node

-- a tick that is due
abbrev pub ticks_at : Draws → WorldState → List Full → Numbered → next.DueNode → Full
ticks_at d w H e x = acts (lab_in d w) H e act.Tick None (max x.moment w.moment) x.number no_ep ticked x.node

-- it was found as the tick that is due first
pub record IsFound (lab : Lab) (H : List Full) (x : Due) : Type 0 where
  pub tick : next.DueNode
  pub least : next.least_due lab H 0 (nodes lab.topology) ≡ Some tick
  pub is : due_as tick ≡ x

-- ONE RECORD

-- what a record finds: nodes, NATs and wire as the history leaves them, and what is armed
pub record Finds (d : Draws) (w : WorldState) (H : List Full) : Type 0 where
  pub nodes : NodesOf (lab_in d w) w.nodes H
  pub nats : AreNatsWith (lab_in d w) H [] w.nats
  pub wire : w.wire ≡ wire H
  pub armed : w.armed ≡ armed H

-- the world after the record r, which comes after H
pub record Comes (d : Draws) (old new : WorldState) (H : List Full) (r : Full) : Type 0 where
  pub moment : new.moment ≡ r.moment
  pub nodes : NodesOf (lab_in d old) new.nodes (r ∷ H)
  pub nats : AreNatsWith (lab_in d old) (r ∷ H) [] new.nats
  pub wire : new.wire ≡ old.wire ++ items_of r
  pub done : (i : ℕ) → get_or new.done i false ≡ (is_number i r.delivered || get_or old.done i false)
  pub armed : new.armed ≡ armed (r ∷ H)

-- the record was played, or wasn't
abbrev pub Plays : Draws → WorldState → WorldState → List Full → Full → Result Record Stop → Type 0
Plays d old new H r (Ok said) = (said ≡ record_of r) × Comes d old new H r
Plays d old new H r (Err stop) = Stops d old new H r stop

-- what a call says by the record that it leaves
abbrev pub played : Result (Unit {0}) Stop → Record → Result Record Stop
played (Ok done) r = Ok r
played (Err stop) r = Err stop

-- THE TURN OF AN EVENT

-- the turn of a record, by whether its event has further ones
abbrev pub turn_from : Result Bool Stop → Record → Result Turn Stop
turn_from (Ok true) r = Ok (More r)
turn_from (Ok false) r = Ok (Last r)
turn_from (Err stop) r = Err stop

-- the same with a turn, which says whether the event has further records
abbrev pub PlaysTurn : Draws → WorldState → WorldState → List Full → Full → Result Turn Stop → Type 0
PlaysTurn d old new H r (Ok turn) = (record_in turn ≡ record_of r) × (has_more r.asked r.act ≡ is_more turn) × Comes d old new H r
PlaysTurn d old new H r (Err stop) = Stops d old new H r stop

-- after a turn with further ones the event goes on; after any other the next one begins
abbrev pub GoesFrom : WorldState → WorldState → Turn → Type 0
GoesFrom old new (More r) = new.began ≡ old.began
GoesFrom old new (Last r) = new.began ≡ new.moment

-- what a turn of an event does to a world, whatever it stands for
pub record Turned (old new : WorldState) (event : Event) (turn : Turn) : Type 0 where
  pub topology : new.topology ≡ old.topology
  pub chain : new.chain ≡ old.chain
  pub stopped : new.stopped ≡ old.stopped
  pub going : new.going ≡ going_after event turn
  pub goes : GoesFrom old new turn
