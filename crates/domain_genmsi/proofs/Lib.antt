-- The laws of what a write to genmsi sends. Assumes nothing.
pub mod GenmsiLaws
