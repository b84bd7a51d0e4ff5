use Rattle.relay_core.proofs.Owed.{none_sooner}
use Rattle.relay_core.proofs.relay.Relay.quiet_until.Goals as goal

pub returns-clause-none : goal.returns-clause-none
returns-clause-none c m late = none_sooner c.args.self.now m (c.quiet_until.ensures.none m late)
