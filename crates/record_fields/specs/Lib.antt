-- The fields of a line. Assumes nothing.
pub mod Fields
