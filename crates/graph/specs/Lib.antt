-- The definitions that the contracts cite.
pub mod Paths
pub mod Searches
pub mod Rounds
pub mod Samples
