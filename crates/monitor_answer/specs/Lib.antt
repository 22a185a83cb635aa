-- What a monitor in C is told. Assumes nothing.
pub mod Told
