-- The laws of the 20 files in their block. Assumes nothing.
pub mod FilesLaws
