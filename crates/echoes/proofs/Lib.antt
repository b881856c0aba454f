-- The lemmas.
pub mod Least
