-- What the laws of the board's block speak of. Assumes nothing.
pub mod Shape
