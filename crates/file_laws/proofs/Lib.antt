-- What holds of one message file, in the words of the paper, for the crates above. Assumes nothing.
pub mod PageEffects
pub mod TopEffects
pub mod RegisterEffects
pub mod WordEffects
pub mod Keeps
pub mod Stored
