-- Writes to domaincfg and genmsi. Assumes nothing.
pub mod Domaincfg
