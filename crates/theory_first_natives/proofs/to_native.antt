-- From a client to a native host.
pub mod ForHost
pub mod ToGiven
pub mod ToKnows
pub mod ToReplied
pub mod ToPasses
pub mod ToAnswer
pub mod ToStages
pub mod ToSteps
pub mod ToBubbleSteps
pub mod ToReplySteps
pub mod ToPacketSteps
pub mod ToAnswerSteps
pub mod ToBoards
pub mod ToHandedIn
pub mod ToStart
pub mod ToNew
