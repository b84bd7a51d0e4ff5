-- The laws of this crate, each under the name of its call: crates above cite them from here.
pub use Rattle.td_explain.proofs.AuditLaws.{agrees_with_audit as each_agrees_with_audit}
pub use Rattle.td_explain.proofs.SaidLaws.{lines_grow}
