use Rattle.load_keeper.proofs.Words.{filter_same, rules}
use Rattle.load_keeper.proofs.node_loads.NodeLoads.drop_waiting.Goals as goal

pub returns-clause-kept : goal.returns-clause-kept
returns-clause-kept c = filter_same _ _ _ (λ x b f' k. search rules) _ _ c.retain.ensures.filtered
