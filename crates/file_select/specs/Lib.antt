-- The leaves of a file's registers: what each means. 01, "One message file". Assumes nothing.
pub mod Select
pub mod Halves
pub mod Deliveries
