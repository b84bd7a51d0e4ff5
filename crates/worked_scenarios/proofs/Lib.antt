mod Words
pub mod Scenes
pub mod Playing
pub mod QualifyReports
pub mod MeetingReports
pub mod ConeReports
pub mod RelayReports
pub mod HeldReports
pub mod TestBytes
pub mod TryReports
pub mod QueueTotals
pub mod Late
pub mod OwnStreams
pub mod FaultReports
pub mod SettleReports
pub mod ChainReports
