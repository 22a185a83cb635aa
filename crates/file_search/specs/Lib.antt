-- The lowest identity that two sets share: what the search for it means. 01, "One message file". Assumes
-- nothing.
pub mod Search
