-- What a client's phase says of its NATs.
pub mod OneMore
pub mod Sound
pub mod Told
pub mod StillAlone
pub mod Untold
pub mod Calm
pub mod Turns
pub mod Concerns
pub mod FirstAsks
pub mod SoundOn
pub mod Judged
pub mod Histories
pub mod Fine
pub mod Undisturbed
pub mod KeptOpen
pub mod WithoutCone
