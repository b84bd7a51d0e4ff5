-- The laws of this crate, each under the name of its call: crates above cite them from here.
use Rattle.lab_nodes.proofs.Words.{EachClientKeepsRules}
use Rattle.lab_nodes.proofs.Rows as rows
pub use Rattle.lab_nodes.proofs.DueMoments.{as_in_the_past as due_as_in_the_past}
pub use Rattle.lab_nodes.proofs.Waiting.{waits_as_in_the_past}

pub rows_keep_rules : EachClientKeepsRules
rows_keep_rules = λ t n row rules at. rows.client_rules t n row rules at
