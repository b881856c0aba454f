-- The lemmas.
pub mod Highest
pub mod Ranks
pub mod Sorting
pub mod Tops
pub mod Passing
pub mod Built
