-- One interrupt source of a domain: what happens to it. Assumes nothing.
pub mod Pending
