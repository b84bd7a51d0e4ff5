pub mod Told
pub mod FollowAccount
pub mod Keeps
