-- Targets and messages: its laws. Assumes nothing.
pub mod TargetLaws
