-- The proofs of these claims, each by citing the crates below. Assumes nothing.
pub mod Table
pub mod Runs
pub mod Inputs
pub mod Reversed
