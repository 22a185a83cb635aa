-- What the three functions over a lent record share: their code, their contract and its proof.
-- Assumes nothing.
pub mod Lent
pub mod LentWalk
