-- What the laws of the files speak of. Assumes nothing.
pub mod Messages
