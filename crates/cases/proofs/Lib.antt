-- The proofs of the program's functions. Assumes nothing.
pub mod DigestLaws
