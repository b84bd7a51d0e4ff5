-- The laws of this crate, each under the name of its call: crates above cite them from here.
pub use Rattle.theory_verdicts.proofs.Throughout.{verdicts_are_right, addresses_stay, histories as histories_have_right_verdicts, scenarios as scenarios_have_right_verdicts}
