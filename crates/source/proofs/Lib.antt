-- The laws of what happens to a source. Assumes nothing.
pub mod PendingLaws
