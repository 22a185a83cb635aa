-- The proofs of the functions of the program. Assumes nothing.
pub mod TurnLaws
