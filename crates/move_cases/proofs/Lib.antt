-- The shifts with a move that are given in full, computed. Assumes nothing.
pub mod BoardRun
pub mod Starts
pub mod ExampleShift
pub mod NeededShifts
pub mod BesidesShifts
pub mod HandedShifts
