-- The laws of writes. Assumes nothing.
pub mod WritesLaws
