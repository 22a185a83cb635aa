-- The laws of the pass over a domain's sources. Assumes nothing.
pub mod SlotsLaws
