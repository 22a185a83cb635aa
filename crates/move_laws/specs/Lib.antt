-- The move of a station in the middle of a shift, and the same shift with no move. Assumes nothing.
pub mod Shift
pub mod Premises
pub mod Moved
pub mod After
