pub mod Faults
pub mod Limits
pub mod Filling
pub mod Rows
pub mod WellStaged
pub mod Worked
