-- What a domain is after one of its parts was replaced, for the crates above. Assumes nothing.
pub mod SetsBack
pub mod SlotEffects
pub mod StructureEffects
pub mod OwnEffects
pub mod BecameEffects
pub mod EachEffects
pub mod ZeroEffects
pub mod PartEffects
