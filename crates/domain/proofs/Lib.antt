-- The laws of a domain's words. Assumes nothing.
pub mod DomainLaws
pub mod SlotLaws
pub mod StructureLaws
