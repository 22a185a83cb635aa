-- One access of a move on a board, and as a call. Assumes nothing.
pub mod MoveEffects
pub mod MoveCallEffects
