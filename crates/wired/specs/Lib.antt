-- A wire that is set, a read and a write of the wired controller, with what they send. Assumes nothing.
pub mod Controller
