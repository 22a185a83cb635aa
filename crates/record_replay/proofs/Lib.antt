-- The laws of pieces, and the proofs of the functions. Assumes nothing.
pub mod PiecesLaws
