-- The proofs of the three demands and of the requests, by citing the claims. Assumes nothing.
pub mod Demands
pub mod Requests
