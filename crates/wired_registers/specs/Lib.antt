-- The wired controller: the registers of its two domains. Assumes nothing.
pub mod Wired
