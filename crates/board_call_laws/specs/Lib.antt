-- What a call's code leaves, and what a call leaves of the board. Assumes nothing.
pub mod Left
pub mod Small
pub mod Fit
