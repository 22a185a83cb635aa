-- The state rules of one source. Assumes nothing.
pub mod SourceRules
pub mod SourceParts
