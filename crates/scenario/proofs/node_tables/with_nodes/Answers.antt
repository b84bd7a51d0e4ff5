use Rattle.scenario.proofs.Words.{rules}
use Rattle.scenario.proofs.node_tables.with_nodes.Goals as goal

pub returns-in-None-clause-value : goal.returns-in-None-clause-value
returns-in-None-clause-value c = search rules
