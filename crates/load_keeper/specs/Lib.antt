pub mod Effects
pub mod Touches
pub mod Kept
pub mod Hearing
pub mod Keeper
pub mod Queries
