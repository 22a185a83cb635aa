-- The proofs of these claims, each by citing the crates below. Assumes nothing.
pub mod MoveParts
pub mod MoveCall
pub mod Runs
pub mod Premises
pub mod Words
pub mod Station
pub mod GivenUp
pub mod OneShift
pub mod Conditions
