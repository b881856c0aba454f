pub mod Fitting
pub mod Judging
pub mod Steps
pub mod Staging
