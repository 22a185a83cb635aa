-- What a domain sends by messages. Assumes nothing.
pub mod Sending
