-- A run by pieces. Assumes nothing.
pub mod Pieces
