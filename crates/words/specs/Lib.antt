-- What the words' functions mean, by topic. Assumes nothing.
pub mod Bits
pub mod Sets
pub mod Parts
pub mod Every
pub mod Threshold
