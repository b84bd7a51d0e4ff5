pub mod Relayed
pub mod FromNative
pub mod MayMeetThroughRelay
pub mod NextFromNative
pub mod ToNative
pub mod NextToNative
pub mod Throughout
