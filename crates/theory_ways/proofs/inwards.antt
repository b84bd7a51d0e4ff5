-- What NATs let in.
pub mod Enters
pub mod Inside
pub mod LetIn
pub mod Shut
pub mod Replies
