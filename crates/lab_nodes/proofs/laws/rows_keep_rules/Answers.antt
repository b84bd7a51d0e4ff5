use Rattle.lab_nodes.proofs.LawProofs.{rows_keep_rules}
use Rattle.lab_nodes.proofs.laws.rows_keep_rules.Goals as goal

pub returns : goal.returns
returns c = rows_keep_rules
