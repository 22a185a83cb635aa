-- The laws of writes to domaincfg and genmsi. Assumes nothing.
pub mod DomaincfgLaws
