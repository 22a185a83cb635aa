-- The laws of the accesses of a move. Assumes nothing.
pub mod StepsLaws
