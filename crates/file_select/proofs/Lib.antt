-- The laws of the definitions behind a file's registers, by topic. Assumes nothing.
pub mod SelectLaws
pub mod HalvesLaws
pub mod DeliveriesLaws
