pub mod Carried
pub mod Classes
pub mod Operations
pub mod Values
