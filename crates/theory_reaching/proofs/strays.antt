-- Datagrams that don't come from where their source says.
pub mod LeavesElsewhere
pub mod Stray
pub mod StrayAtServer
pub mod MovedOut
pub mod MovedStray
pub mod Gone
pub mod Moved
pub mod MovedWords
pub mod MovedTest
pub mod SameSource
pub mod BubbleAstray
pub mod MovedBubbles
