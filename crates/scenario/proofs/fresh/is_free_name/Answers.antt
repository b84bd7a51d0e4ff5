use Rattle.scenario.proofs.Words.{rules}
use Rattle.scenario.proofs.Taken.{free_name_by_kind}
use Rattle.scenario.proofs.fresh.is_free_name.Goals as goal

pub returns : goal.returns
returns c = rw (free_name_by_kind c.args.topology.now c.args.name) (search rules)
