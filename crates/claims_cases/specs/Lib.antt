-- The claims on the table cases: each a statement written out in full. The header of each file
-- names its premises. No axioms.
pub mod Table
pub mod Runs
pub mod Inputs
