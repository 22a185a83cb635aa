-- The proofs of these claims, each by citing the crates below. Assumes nothing.
pub mod BoardCalls
pub mod BoardFacts
pub mod Asked
pub mod Answers
