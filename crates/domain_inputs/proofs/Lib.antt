-- The laws of what in_clrip reads. Assumes nothing.
pub mod InputsLaws
pub mod GatheringLaws
