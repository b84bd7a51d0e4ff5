pub mod AttemptLaws
pub mod CarryLaws
pub mod Serve
pub mod Ticks
pub mod Turn
