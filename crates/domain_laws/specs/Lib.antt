-- What the laws of a domain speak of. Assumes nothing.
pub mod Shape
pub mod Became
pub mod Each
