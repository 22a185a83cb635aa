-- What holds of the 20 message files, for the crates above. Assumes nothing.
pub mod BlockBack
pub mod AnyLaws
pub mod ReachedEffects
pub mod Keeps
pub mod DeliveryEffects
pub mod MessageCases
