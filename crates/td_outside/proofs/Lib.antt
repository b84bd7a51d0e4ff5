mod Words
pub mod Arrivals
pub mod Fronts
pub mod GivenMoments
pub mod Opened
pub mod Untold
