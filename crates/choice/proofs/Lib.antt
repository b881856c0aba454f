pub mod Arms
pub mod Forks
pub mod Layer
pub mod Parts
