-- The proofs of the functions, and the laws for callers. Assumes nothing.
pub mod ReadingLaws
pub mod TextLaws
pub mod PuttingLaws
pub mod NumberLaws
