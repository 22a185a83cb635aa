-- The laws of the state rules. Assumes nothing.
pub mod BitsLaws
pub mod RulesLaws
