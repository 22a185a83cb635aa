-- A file's words in a lent block. Assumes nothing.
pub mod Stored
