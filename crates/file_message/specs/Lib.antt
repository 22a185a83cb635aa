-- The log word of a message. Assumes nothing.
pub mod Message
