-- What holds of direct delivery, in the words of the paper, for the crates above. Assumes nothing.
pub mod TopEffects
pub mod ClaimEffects
