-- The calls of the board: their answers and refusals, and what each does. Assumes nothing.
pub mod Answer
pub mod Numbers
pub mod Calls
pub mod Refusal
pub mod Move
pub mod Change
pub mod Outcome
