pub mod Faults
pub mod Held
pub mod Did
pub mod Moved
pub mod Started
