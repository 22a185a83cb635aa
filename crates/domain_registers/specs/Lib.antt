-- The registers of one domain: reads, and writes before anything is sent. Assumes nothing.
pub mod Read
pub mod Write
