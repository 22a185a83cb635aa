-- The laws of the table, and the proofs of the functions. Assumes nothing.
pub mod TableLaws
