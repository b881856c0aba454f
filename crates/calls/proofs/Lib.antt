pub mod Turns
pub mod Serving
