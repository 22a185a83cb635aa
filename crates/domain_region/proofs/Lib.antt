-- The laws of the registers by address, and of their roles. Assumes nothing.
pub mod RegionLaws
pub mod RoleLaws
