-- The proofs of these claims, each by citing the crates below. Assumes nothing.
pub mod Causes
pub mod Sending
pub mod Candidates
pub mod Direct
pub mod Fields
pub mod Region
