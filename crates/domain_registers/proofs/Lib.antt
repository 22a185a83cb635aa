-- The laws of a domain's registers. Assumes nothing.
pub mod ReadLaws
