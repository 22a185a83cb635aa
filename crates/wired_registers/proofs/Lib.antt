-- The laws of the wired controller. Assumes nothing.
pub mod WiredLaws
