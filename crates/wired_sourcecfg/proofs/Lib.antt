-- The laws of a sourcecfg that is written. Assumes nothing.
pub mod DelegationLaws
