-- The laws of sets that are one word. Assumes nothing.
pub mod MasksLaws
pub mod MembersLaws
