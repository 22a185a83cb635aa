-- The laws and proofs of the ranges of one source. Assumes nothing.
pub mod RangeLaws
