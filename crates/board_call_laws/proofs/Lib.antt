-- What a call gives, from what its code leaves. Assumes nothing.
pub mod OutcomeEffects
pub mod StepEffects
pub mod WiredCallEffects
pub mod GivesEffects
pub mod FitEffects
pub mod KeepsEffects
pub mod CallTests
pub mod FileCallEffects
pub mod HartCallEffects
