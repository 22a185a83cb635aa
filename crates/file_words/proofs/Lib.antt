-- The laws of a file's words in a block. Assumes nothing.
pub mod StoredLaws
