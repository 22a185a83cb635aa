-- What holds of the wired controller's calls. Assumes nothing.
pub mod CountEffects
pub mod OutEffects
pub mod WireEffects
pub mod TargetEffects
pub mod ReadEffects
