-- The sourcecfg word of a source: its laws. Assumes nothing.
pub mod ModeLaws
