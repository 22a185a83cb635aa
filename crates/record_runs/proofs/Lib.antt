-- The laws of a run, line by line and by pieces. Assumes nothing.
pub mod SaidLaws
pub mod RunLaws
pub mod StepLaws
pub mod LineLaws
