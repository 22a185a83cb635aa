-- The top of a hart. Assumes nothing.
pub mod Top
