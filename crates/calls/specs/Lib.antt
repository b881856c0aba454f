pub mod Asking
pub mod Runs
pub mod Service
