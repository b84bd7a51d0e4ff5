pub mod Account
pub mod Capture
pub mod Accounts
pub mod CaptureLaws
pub mod Endings
pub mod PlayFaults
pub mod Hearing
pub mod Numbers
