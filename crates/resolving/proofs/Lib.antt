pub mod Before
pub mod Keeps
pub mod Only
pub mod Rules
pub mod Tables
pub mod Undecided
