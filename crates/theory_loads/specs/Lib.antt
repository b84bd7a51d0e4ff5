pub mod Carried
pub mod Arrivals
