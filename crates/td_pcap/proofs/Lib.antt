mod Words
pub mod OrderLaws
pub mod HeadLaws
pub mod RecordLaws
pub mod StepLaws
pub mod CaptureLaws
pub mod LawProofs
pub mod Worked
