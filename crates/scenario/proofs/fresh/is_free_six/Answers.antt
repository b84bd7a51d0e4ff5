use Rattle.scenario.proofs.Words.{rules}
use Rattle.scenario.proofs.Taken.{free_six_by_kind}
use Rattle.scenario.proofs.fresh.is_free_six.Goals as goal

pub returns : goal.returns
returns c = rw (free_six_by_kind c.args.topology.now c.args.ip) (search rules)
