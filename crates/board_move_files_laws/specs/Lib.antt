-- What the laws of the files of a move speak of. Assumes nothing.
pub mod Related
