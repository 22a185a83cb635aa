-- What a write to a register does to each source of its domain, for the crates above. Assumes nothing.
pub mod WritesEffects
pub mod DomaincfgEffects
