-- What happens to one source keeps its state rules, for the crates above. Assumes nothing.
pub mod ModeEffects
pub mod TargetEffects
pub mod LevelEffects
pub mod SteadyParts
pub mod SameEffects
pub mod SteadyEffects
pub mod SentEffects
pub mod PartsEffects
