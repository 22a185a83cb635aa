-- The proofs of the claims on records. No axioms.
pub mod Examples
pub mod PartsLaws
pub mod Lines
pub mod Decimals
pub mod Rows
pub mod Written
pub mod Pieces
pub mod Replay
pub mod Refusals
