-- The proofs of these claims, each by citing the crates below. Assumes nothing.
pub mod OneSource
pub mod Accepted
pub mod ClosureSent
pub mod ClosureFiles
pub mod Closure
pub mod Rows
pub mod ClosureCall
pub mod Numbers
pub mod BoardRules
pub mod Start
pub mod Inputs
pub mod Places
