-- The laws of the wires and of both domains, and of the pass. Assumes nothing.
pub mod PassLaws
pub mod WiresLaws
