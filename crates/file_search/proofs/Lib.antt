-- The laws of the search, by topic. Assumes nothing.
pub mod LowestLaws
pub mod SearchLaws
