-- The definitions that the contracts cite.
pub mod Images
pub mod Runs
pub mod Worked
