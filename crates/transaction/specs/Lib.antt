pub mod Faults
pub mod Frames
pub mod Programs
pub mod Shown
pub mod Statements
pub mod WellFormed
