-- What the accesses of a move and the messages between them do to the files. Assumes nothing.
pub mod SelectEffects
pub mod ActedLaws
pub mod WrittenEffects
pub mod SharedEffects
pub mod NotedEffects
pub mod RestoredEffects
pub mod AccessEffects
pub mod RelatedEffects
pub mod SmallCases
pub mod TableLaws
