-- The claims on records of calls. No axioms.
pub mod Text
pub mod Written
pub mod Lines
pub mod Replay
pub mod Examples
