pub mod Digits
pub mod Joined
pub mod ShownLaws
pub mod Told
