-- The laws of parted bytes and of lines, and the proofs of the functions. Assumes nothing.
pub mod PartedLaws
pub mod FirstLaws
pub mod LinesLaws
pub mod FoundLaws
pub mod HeldLaws
