-- What in_clrip reads. Assumes nothing.
pub mod Inputs
pub mod Gathering
