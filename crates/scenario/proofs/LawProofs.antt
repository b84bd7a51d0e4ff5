-- The laws of this crate, each under the name of its call: crates above cite them from here.
pub use Rattle.scenario.proofs.KeptRules.{scenario_of-rules as rules_kept}
