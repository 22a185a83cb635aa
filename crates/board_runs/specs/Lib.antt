-- Calls made one after the other. Assumes nothing.
pub mod Runs
pub mod Handed
pub mod Ready
pub mod Reading
