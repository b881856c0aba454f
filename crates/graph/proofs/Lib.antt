-- The lemmas.
pub mod Paths
pub mod Rounds
pub mod Marking
pub mod Any
