pub mod Gone
pub mod LostStays
pub mod FirstArrival
pub mod LastSaying
