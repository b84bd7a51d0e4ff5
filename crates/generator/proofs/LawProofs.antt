-- The laws of this crate, each under the name of its call: crates above cite them from here.
pub use Rattle.generator.proofs.Honest.{each as generated_is_honest}
