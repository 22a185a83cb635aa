-- What holds of the exported functions. Assumes nothing.
pub mod ToldLaws
