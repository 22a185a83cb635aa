-- Targets and messages. Assumes nothing.
pub mod Target
