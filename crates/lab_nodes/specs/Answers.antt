-- What a node that is asked does, for each past that it stands for.
use Rattle.std.specs.Prelude.{◌≡◌, ℕ, true, List, [], length, option_map, Result, Ok, Err}
use Rattle.td_base.specs.declared.refusals.NoMemory.{NoMemory}
use Rattle.teredo_node.specs.Step.{Step}
use Rattle.teredo_node.specs.Journal.{Input, Entry, Journal}
use Rattle.relay_core.specs.declared.relay.Relay.{Relay}
use Rattle.relay_core.specs.Relay.{RelayStandsFor}
use Rattle.relay_core.specs.Relay.{next_relay_entry}
use Rattle.client_core.specs.declared.client.Client.{Client}
use Rattle.client_core.specs.Client.{ClientStandsFor, next_entry}
use Rattle.history.specs.Full.{Full}
use Rattle.legal.specs.Lab.{Lab}
use Rattle.legal.specs.Emit.{sendings, address_by, handed_by}
use Rattle.lab_nodes.specs.Call.{entry_in}
use Rattle.lab_nodes.specs.declared.call.Call.{Call}
use Rattle.lab_nodes.specs.declared.played_node.PlayedNode.{PlayedNode}
use Rattle.lab_nodes.specs.declared.played_node.PlayedNode.TheVariants as played
use Rattle.lab_nodes.specs.declared.asked.Asked.{Asked}
use Rattle.lab_nodes.specs.PlayedNode.{row_of, past_of, IsKept}
use Rattle.lab_nodes.specs.Outlet.{outlet_of, sendings_by}
use Rattle.lab_nodes.specs.Changes.{with_call, PlayedAsBefore}
use Rattle.lab_nodes.specs.Memory.{takes_memory}

-- WHERE MEMORY MAY BE WANTING

-- a step in which memory may be wanting: it sends something, or has a fate at which something is kept
abbrev pub SendsOrKeeps : Step → Type 0
SendsOrKeeps step = step.sends ≡ [] → takes_memory step.fate ≡ true

-- memory may run out for this input, by each journal that the client stands for
abbrev pub ClientStarves : Client → ℕ → Input → Type 0
ClientStarves c m input = (j : Journal) → ClientStandsFor c j → SendsOrKeeps (next_entry c j m input).step

-- memory may run out for this input, by each journal that the relay stands for
abbrev pub RelayStarves : Relay → ℕ → Input → Type 0
RelayStarves r m input = (j : List Entry) → RelayStandsFor r j → SendsOrKeeps (next_relay_entry r j m input).step

-- the same, of a node by its call
abbrev pub MayTakeMemory : Call → PlayedNode → Type 0
MayTakeMemory x old = (lab : Lab) (H : List Full) → IsKept lab.topology x.node (past_of lab x.node H) old
    → (sendings lab H x.now.0 (entry_in lab H x (row_of old)) (row_of old)).made ≡ [] → takes_memory (entry_in lab H x (row_of old)).step.fate ≡ true

-- memory was wanting: the node is a client or a relay, and keeps something, or sends. No other node wants any
abbrev pub Wants : Call → PlayedNode → Type 0
Wants x (played.Server row) = ⊥
Wants x (played.Nat row) = ⊥
Wants x (played.Client row is) = MayTakeMemory x (played.Client row is)
Wants x (played.Relay row is) = MayTakeMemory x (played.Relay row is)
Wants x (played.Native row) = ⊥

-- WHAT COMES OF A CALL

-- the node does what the next entry says, and stands for its past with that
pub record AnswersFor (lab : Lab) (H : List Full) (x : Call) (old new : PlayedNode) (step : Step) (asked : Asked) : Type 0 where
  pub did : step ≡ (entry_in lab H x (row_of old)).step
  pub keeps : IsKept lab.topology x.node (with_call (entry_in lab H x (row_of old)) (past_of lab x.node H)) new
  pub leaves : sendings lab H x.now.0 (entry_in lab H x (row_of old)) (row_of old) ≡ sendings_by lab H x.now.0 asked.outlet asked.packet step.sends
  pub handed : asked.handed ≡ option_map length (handed_by (entry_in lab H x (row_of old)))
  pub address : asked.address ≡ address_by lab H x.node (entry_in lab H x (row_of old)) (row_of old)

-- for each past that it stood for
pub record AnswersCall (x : Call) (old new : PlayedNode) (step : Step) (asked : Asked) : Type 0 where
  pub outlet : asked.outlet ≡ outlet_of (row_of old)
  pub each : (lab : Lab) (H : List Full) → IsKept lab.topology x.node (past_of lab x.node H) old → AnswersFor lab H x old new step asked

-- memory was wanting: the node and the step are as before
pub record WantsOnly (x : Call) (old new : PlayedNode) (before step : Step) : Type 0 where
  pub wants : Wants x old
  pub as_before : PlayedAsBefore old new
  pub untouched : step ≡ before

-- it answers, or memory was wanting
abbrev pub AnswersOrWants : Call → Step → Step → Result Asked NoMemory → PlayedNode → PlayedNode → Type 0
AnswersOrWants x before step (Ok asked) old new = AnswersCall x old new step asked
AnswersOrWants x before step (Err e) old new = WantsOnly x old new before step
