-- The proofs of these claims, each by citing the crates below. Assumes nothing.
pub mod WiredCalls
pub mod Kept
pub mod KeptWired
pub mod Operations
pub mod Controller
pub mod Record
pub mod Effects
