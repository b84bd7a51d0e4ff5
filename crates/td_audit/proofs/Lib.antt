mod Words
pub mod KeyLaws
pub mod MapLaws
mod LeftLaws
pub mod PlaceLaws
mod RunLaws
pub mod ReplyLaws
mod JudgeLaws
pub mod WalkLaws
mod VerdictLaws
