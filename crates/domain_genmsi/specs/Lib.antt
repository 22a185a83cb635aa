-- What a write to genmsi sends. Assumes nothing.
pub mod Genmsi
