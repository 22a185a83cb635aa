-- The wires and both domains, and the pass after a change. Assumes nothing.
pub mod Wires
pub mod Pass
