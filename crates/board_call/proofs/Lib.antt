-- The laws of the calls. Assumes nothing.
pub mod AnswerLaws
pub mod RefusalLaws
