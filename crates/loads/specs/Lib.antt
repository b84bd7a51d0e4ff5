pub mod Numbered
pub mod Loads
pub mod Sayings
pub mod Images
pub mod Ends
pub mod FollowLines
