-- Shifts with a move, given in full. Assumes nothing.
pub mod Board
pub mod Example
pub mod Needed
