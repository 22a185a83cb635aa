-- The claims on one source and on one domain of the wired controller: each a statement written out in full.
-- The header of each file names its premises. No axioms.
pub mod Causes
pub mod Sending
pub mod Direct
pub mod Fields
pub mod Region
