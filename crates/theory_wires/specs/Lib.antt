pub mod ReadsBack
pub mod CleanWire
pub mod HoldsWire
