-- One message file: what each of its operations means. 01, "One message file". Assumes nothing.
pub mod Parts
pub mod Shape
pub mod Page
pub mod Top
pub mod Rules
pub mod Reply
pub mod Register
