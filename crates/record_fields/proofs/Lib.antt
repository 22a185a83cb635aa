-- The laws of the fields of a line, and the proofs of the functions. Assumes nothing.
pub mod FieldsLaws
pub mod NumbersLaws
pub mod CountLaws
