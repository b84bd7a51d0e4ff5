-- The laws of this crate, each under the name of its call: crates above cite them from here.
pub use Rattle.qualify.proofs.Turned.{turns, turns_at_start}
pub use Rattle.qualify.proofs.Stands.{keeps_still}
pub use Rattle.qualify.proofs.Streams.{words_after, after_after, seed_words as seed_gives_words}
