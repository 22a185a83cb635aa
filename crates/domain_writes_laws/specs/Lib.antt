-- What the laws of writes speak of. Assumes nothing.
pub mod Named
