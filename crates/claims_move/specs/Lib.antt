-- The claims on the move of a station: each a statement written out in full. The header of each file
-- names its premises. No axioms.
pub mod MoveCall
pub mod Runs
pub mod Premises
pub mod Words
pub mod Station
pub mod GivenUp
pub mod OneShift
pub mod Conditions
