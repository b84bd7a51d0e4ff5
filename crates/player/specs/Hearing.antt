-- What a listener is told of a record, and how it hears it.
use Rattle.std.specs.Prelude.{◌≡◌, ℕ, ◌<◌, ◌^◌, Bool, true, List, [], ◌∷◌, length, Result, Ok, Err}
use Rattle.td_base.specs.declared.millis.TheConstants.{CLOCK_END_MS}
use Rattle.td_outside.specs.Sink.{SinkState}
use Rattle.topology.specs.Rows.{TopologyState}
use Rattle.events.specs.declared.event.Event.{Event}
use Rattle.history.specs.declared.records.Record.{Record}
use Rattle.history.specs.Full.{Full, wire}
use Rattle.history.specs.Records.{record_of}
use Rattle.history.specs.Telling.{IsTold}
use Rattle.legal.specs.Lab.{Draws}
use Rattle.world.specs.World.{WorldState, StandsFor}
use Rattle.sink_lines.specs.Lines.{Writing, WritesNothing}
use Rattle.player.specs.declared.hear_fault.HearFault.{HearFault}
use Rattle.player.specs.declared.hear_fault.HearFault.TheVariants.{Failed, NoMemory}
use Rattle.player.specs.Endings.{FitsWire}

-- The record was made last, after these, of this event, and its entries are on the wire of the world, which stands for all of
-- them: the one history of its laboratory that has grown so. The nodes are those of the topology.
pub record IsNews (t : TopologyState) (w : WorldState) (event : Event) (said : Record) (H : List Full) (r : Full) : Type 0 where
  pub is : said ≡ record_of r
  pub asked : r.asked ≡ event
  pub tells : IsTold r
  pub first : r.first ≡ length (wire H)
  pub entries : w.wire ≡ wire (r ∷ H)
  pub fits : FitsWire (r ∷ H)
  pub topology : w.topology ≡ t
  pub draws : Draws
  pub stands : StandsFor draws w (r ∷ H)
  pub early : w.moment < CLOCK_END_MS

-- the records of a history are fewer
abbrev pub records_end : ℕ
records_end = 2 ^ 61

-- What is kept is that of some history, after which the record was made.
pub record CanHear (keeps : TopologyState → List Full → Type 0) (w : WorldState) (event : Event) (said : Record) : Type 0 where
  pub topology : TopologyState
  pub history : List Full
  pub last : Full
  pub kept : keeps topology history
  pub news : IsNews topology w event said history last
  pub few : length history < records_end

-- How a record is heard on which these lines are written: they are, or the sink fails; or memory is wanting, where it may be, and
-- nothing is written.
abbrev pub IsHeard : Bool → SinkState → SinkState → List (List ℕ) → Result (Unit {0}) HearFault → Type 0
IsHeard wants old new lines (Ok _) = Writing {E = HearFault} old new lines (Ok tt)
IsHeard wants old new lines (Err Failed) = Writing {E = HearFault} old new lines (Err Failed)
IsHeard wants old new lines (Err NoMemory) = (wants ≡ true) × (new.faults ≡ old.faults) × WritesNothing old new
