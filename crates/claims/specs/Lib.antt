-- The three demands and the requests, each a conjunction of claims. No axioms.
pub mod Demands
pub mod Requests
