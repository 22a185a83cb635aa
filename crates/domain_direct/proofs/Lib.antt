-- The laws of direct delivery. Assumes nothing.
pub mod DirectLaws
