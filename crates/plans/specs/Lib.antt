pub mod Updates
pub mod Pipeline
pub mod Sound
pub mod Idle
