mod Words
pub mod WholeText
pub mod Ended
mod WireHeld
pub mod Generated
pub mod Nested
pub mod Reach
pub mod ChainEnded
