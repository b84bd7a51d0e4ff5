-- What holds throughout a fresh schedule.
pub mod Undelivered
pub mod NoFault
pub mod ApartWays
pub mod Throughout
pub mod WayStays
pub mod TwoDeliveries
pub mod OpensElsewhere
pub mod OtherRecords
pub mod AsManyAsMade
