-- What holds of calls made one after the other. Assumes nothing.
pub mod KeptEffects
pub mod RunsEffects
pub mod ReadingEffects
pub mod MadeEffects
pub mod StartEffects
