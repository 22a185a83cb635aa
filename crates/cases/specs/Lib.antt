-- What the functions of the program say of themselves. Assumes nothing.
pub mod Digest
pub mod Lendable
pub mod Piece
pub mod Own
pub mod Next
