-- The laws of a file's definitions, by topic. Assumes nothing.
pub mod PageLaws
pub mod TopLaws
pub mod RegisterLaws
