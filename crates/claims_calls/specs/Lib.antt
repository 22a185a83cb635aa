-- The claims on the calls of the board, by their functions: each a statement written out in full. The
-- header of each file names its premises. No axioms.
pub mod BoardCalls
pub mod BoardFacts
pub mod Asked
pub mod Answers
