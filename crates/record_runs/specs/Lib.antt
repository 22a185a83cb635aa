-- A record that is run. Assumes nothing.
pub mod Replay
