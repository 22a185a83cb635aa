-- The laws of a log word. Assumes nothing.
pub mod MessageLaws
