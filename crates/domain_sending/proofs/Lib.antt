-- The laws of sending, of the sources that wait, and of the pass as the code makes it. Assumes nothing.
pub mod SendingLaws
pub mod PassLaws
