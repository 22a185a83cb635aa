-- Sizes, counts and places. Assumes nothing.
pub mod Sizes
