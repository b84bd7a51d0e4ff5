-- What a run meets outside.
use Rattle.std.specs.Prelude.{◌≡◌}
use Rattle.td_outside.specs.Sink.{SinkState}
use Rattle.td_outside.specs.Source.{SourceState}
use Rattle.td_outside.specs.Link.{LinkState}
use Rattle.td_outside.specs.Clock.{ClockState}

-- its states at one moment
pub record Outside : Type 0 where
  pub source : SourceState
  pub sink : SinkState
  pub link : LinkState
  pub clock : ClockState

-- No count of faults rose, of the source and of the sink.
pub record NoFault (i i' : SourceState) (o o' : SinkState) : Type 0 where
  pub source : i'.faults ≡ i.faults
  pub sink : o'.faults ≡ o.faults
