pub mod Branches
pub mod Live
