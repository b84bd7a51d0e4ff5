pub mod GeneratedNodes
pub mod GeneratedEvent
pub mod Generated
pub mod Numbers
