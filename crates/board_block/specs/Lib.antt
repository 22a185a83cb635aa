-- The board in its block of words. Assumes nothing.
pub mod Block
pub mod Start
