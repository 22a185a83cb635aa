-- The proofs of these claims, each by citing the crates below. Assumes nothing.
pub mod FileCalls
pub mod FileFacts
pub mod FileState
pub mod FileRegisters
