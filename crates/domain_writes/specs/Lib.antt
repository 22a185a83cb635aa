-- What writes to a domain's registers do to the domain, before anything is sent. Assumes nothing.
pub mod Writes
