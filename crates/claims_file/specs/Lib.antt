-- The claims on one message file: each a statement written out in full. The header of each file
-- names its premises. No axioms.
pub mod FileCalls
pub mod FileFacts
pub mod FileState
pub mod FileRegisters
