-- The laws of what a register reads. Assumes nothing.
pub mod ValuesLaws
