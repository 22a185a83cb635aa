-- The settable numbers of a delivery structure. 01, "Direct delivery and signals". Assumes nothing.
pub mod Delivery
