-- One domain: its parts, its sources' slots, its delivery structures. Assumes nothing.
pub mod Domain
pub mod Slot
pub mod Structure
