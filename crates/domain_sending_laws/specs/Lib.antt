-- What the laws of sending speak of. Assumes nothing.
pub mod Candidates
