-- Decimal numbers. Assumes nothing.
pub mod Decimal
