use Rattle.relay_core.proofs.Entered.{nobody_stands}
use Rattle.relay_core.proofs.relay.Relay.new.Goals as goal

pub returns-clause-stands : goal.returns-clause-stands
returns-clause-stands c = nobody_stands (record { at = c.args.at; six = c.args.six; policy = c.args.policy; served = c.args.served; peers = c.new.result }) c.new.ensures.empty c.new.ensures.stands
