-- A sourcecfg that is written. Assumes nothing.
pub mod Delegation
