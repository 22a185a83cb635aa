-- What the registers of one domain read. Assumes nothing.
pub mod Values
