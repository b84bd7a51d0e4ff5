pub mod Schedules
pub mod FirstPacket
pub mod MayMeet
pub mod Throughout
pub mod Courses
pub mod AlongWays
pub mod NoRoom
