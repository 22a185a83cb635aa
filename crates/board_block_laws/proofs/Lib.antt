-- What holds of the board in its block, for the crates above. Assumes nothing.
pub mod DomainBack
pub mod BlockBack
pub mod StartEffects
