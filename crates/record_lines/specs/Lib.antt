-- Lines out of bytes. Assumes nothing.
pub mod Bytes
pub mod Parted
pub mod Lines
