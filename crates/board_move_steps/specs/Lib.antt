-- The move of a station, access by access. Assumes nothing.
pub mod Names
pub mod Steps
