-- The move keeps what it should. Assumes nothing.
pub mod ArrivalEffects
pub mod ActedEffects
pub mod Invariant
pub mod BesideEffects
pub mod OnFileEffects
pub mod WatchEffects
pub mod ElseEffects
pub mod OthersEffects
pub mod ShiftEffects
pub mod AfterEffects
pub mod LeftEffects
pub mod EndEffects
pub mod GivenUpEffects
pub mod LaterEffects
pub mod LaterRuns
