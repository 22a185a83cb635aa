-- The delivery structures at work. 01, "Direct delivery and signals". Assumes nothing.
pub mod Direct
