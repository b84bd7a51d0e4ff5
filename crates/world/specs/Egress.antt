-- How a datagram that is sent leaves.
use Rattle.std.specs.Prelude.{Result, Ok, Err}
use Rattle.td_base.specs.declared.endpoint.Ep.{Ep}
use Rattle.history.specs.declared.mark.Loss.{Loss}
use Rattle.world.specs.declared.egress.Egress.{Egress}
use Rattle.world.specs.declared.egress.Egress.TheVariants as egress

-- the source that it has, or why it is lost
abbrev pub source_or_loss : Egress → Result Ep Loss
source_or_loss (egress.Leaves src) = Ok src
source_or_loss (egress.Lost why) = Err why
