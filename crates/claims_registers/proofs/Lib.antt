-- The proofs of these claims, each by citing the crates below. Assumes nothing.
pub mod SourceRules
pub mod Rules
pub mod Writes
pub mod Modes
pub mod Registers
pub mod Enables
pub mod Settings
pub mod Sourcecfg
pub mod Accesses
pub mod Wires
