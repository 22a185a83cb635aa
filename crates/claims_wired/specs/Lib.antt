-- The claims on the wired controller's calls and on what they leave: each a statement written out in full.
-- The header of each file names its premises. No axioms.
pub mod WiredCalls
pub mod Kept
pub mod Operations
pub mod Controller
pub mod Record
pub mod Effects
