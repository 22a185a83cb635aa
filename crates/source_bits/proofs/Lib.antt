-- The laws of a word that is 0. Assumes nothing.
pub mod ZeroLaws
