-- The laws of the wired controller's calls. Assumes nothing.
pub mod CallLaws
pub mod ControllerLaws
