-- The laws of the calls on the wired controller. Assumes nothing.
pub mod AcceptedLaws
