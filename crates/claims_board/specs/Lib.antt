-- The claims on the calls of the board, by what they do: each a statement written out in full. The header
-- of each file names its premises. No axioms.
pub mod OneSource
pub mod Accepted
pub mod Closure
pub mod Rows
pub mod Numbers
pub mod BoardRules
pub mod Start
pub mod Inputs
pub mod Places
