pub mod Kinds
pub mod Rightness
