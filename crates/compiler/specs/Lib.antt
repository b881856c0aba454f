pub mod Faults
pub mod Verdict
pub mod Settings
pub mod Planned
