-- Sets of small numbers, each as one word. Assumes nothing.
pub mod Masks
pub mod Members
