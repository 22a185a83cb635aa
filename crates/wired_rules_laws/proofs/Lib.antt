-- Every operation of the wired controller keeps its state rules, for the crates above. Assumes nothing.
pub mod SoundParts
pub mod ModeEffects
pub mod SteadyEffects
pub mod QuietEffects
pub mod DomaincfgEffects
pub mod RegisterEffects
pub mod ReadEffects
pub mod PassEffects
pub mod SourceEffects
pub mod WiredEffects
pub mod DelegationEffects
pub mod WiredQuietEffects
pub mod WiredSameEffects
