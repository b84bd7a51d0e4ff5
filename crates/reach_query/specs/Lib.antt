pub mod Hosts
pub mod Looked
pub mod Asked
pub mod PairLines
pub mod ReachAccount
