-- The laws of lines of numbers, and the proofs of the functions. Assumes nothing.
pub mod ShownLaws
