-- The lemmas.
pub mod Turns
pub mod Paths
pub mod Owners
pub mod Inner
pub mod InOrder
pub mod Joining
