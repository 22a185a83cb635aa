-- The message files of the board. Assumes nothing.
pub mod Files
