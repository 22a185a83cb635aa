-- What a line says. Assumes nothing.
pub mod Table
