-- The state rules of the wired controller. Assumes nothing.
pub mod Bits
pub mod Rules
