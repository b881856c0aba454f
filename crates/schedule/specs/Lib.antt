pub mod Seek
pub mod Nodes
