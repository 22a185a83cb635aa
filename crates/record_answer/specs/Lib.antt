-- Numbers as a line of text. Assumes nothing.
pub mod Shown
