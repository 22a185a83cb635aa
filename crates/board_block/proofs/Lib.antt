-- The laws of the board's block. Assumes nothing.
pub mod BlockLaws
pub mod StartLaws
