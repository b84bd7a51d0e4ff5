pub mod Loads
pub mod Deliveries
pub mod Falls
pub mod Throughout
pub mod Follow
pub mod ByKind
pub mod NineThroughout
