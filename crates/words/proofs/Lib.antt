-- The laws of the words' definitions, for callers and for the proofs here. Assumes nothing.
pub mod BitsLaws
pub mod EveryLaws
pub mod PartsLaws
pub mod SegmentLaws
pub mod SetsLaws
pub mod TestsLaws
pub mod ThresholdLaws
pub mod ZerosLaws
pub mod WalkLaws
