-- What holds of the messages that a domain sends, in the words of the paper, for the crates above. Assumes
-- nothing.
pub mod SendingEffects
pub mod OneEffects
pub mod MessageEffects
pub mod SendingCases
