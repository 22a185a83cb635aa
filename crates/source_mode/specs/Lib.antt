-- The sourcecfg word of a source. Assumes nothing.
pub mod Mode
