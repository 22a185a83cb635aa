-- The proofs of the calls on one message file. Assumes nothing.
pub mod KindLaws
