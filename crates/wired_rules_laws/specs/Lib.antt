-- What the laws of the state rules speak of. Assumes nothing.
pub mod Steady
