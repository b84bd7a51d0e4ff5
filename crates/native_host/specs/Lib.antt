pub mod Natives
pub mod NativeSends
