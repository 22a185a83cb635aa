-- What a wire and the accesses of step 3 do to two controllers that differ in targets. Assumes nothing.
pub mod TargetNames
pub mod WireRelated
pub mod StepThree
