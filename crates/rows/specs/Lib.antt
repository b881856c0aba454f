-- The definitions that the contracts cite.
pub mod Sorts
pub mod Makers
pub mod Rows
pub mod Passes
pub mod Placed
pub mod Samples
