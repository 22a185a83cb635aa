-- The laws of the top. Assumes nothing.
pub mod TopLaws
pub mod StandingLaws
pub mod WordLaws
