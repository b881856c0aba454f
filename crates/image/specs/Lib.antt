pub mod Reading
pub mod Reads
pub mod Writing
pub mod Theorem
