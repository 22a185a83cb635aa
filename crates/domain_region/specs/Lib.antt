-- What an address of a domain's region means. 01, "The wired controller". Assumes nothing.
pub mod Region
pub mod Role
