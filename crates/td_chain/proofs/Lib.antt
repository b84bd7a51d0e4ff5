mod Words
pub mod PairLemmas
pub mod ThereLemmas
pub mod PassLemmas
pub mod LeaveLemmas
pub mod WalkLemmas
