-- The pass over the words of a domain's sources. Assumes nothing.
pub mod Slots
