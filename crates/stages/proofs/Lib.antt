pub mod Counts
pub mod NextRow
pub mod Places
pub mod Progress
pub mod Tables
pub mod Widths
