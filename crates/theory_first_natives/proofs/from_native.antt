-- From a native host to a client.
pub mod Trio
pub mod TrioStages
pub mod TrioAfter
pub mod OnItsWay
pub mod RelaySteps
pub mod ClientSteps
pub mod BubbleSteps
pub mod TrioSteps
pub mod TrioStepsOnward
pub mod TestSteps
pub mod TrioBoards
pub mod TrioStart
