-- The claims on the registers and the state rules of the wired controller: each a statement written out in
-- full. The header of each file names its premises. No axioms.
pub mod Rules
pub mod Writes
pub mod Modes
pub mod Registers
pub mod Enables
pub mod Settings
pub mod Sourcecfg
pub mod Accesses
pub mod Wires
