use Rattle.relay_core.proofs.Entered.{nobody_stands}
use Rattle.relay_core.proofs.relay.Relay.restart.Goals as goal

pub returns-clause-stands : goal.returns-clause-stands
returns-clause-stands c = nobody_stands (record c.args.self.now { peers = c.clear.new.self }) c.clear.ensures.empty c.clear.ensures.stands
