-- What the laws of the targets of a move speak of. Assumes nothing.
pub mod Retargeted
