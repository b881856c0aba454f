pub mod Classes
pub mod Codelets
pub mod Leaves
pub mod Reads
pub mod Resolving
pub mod Sameness
