-- The definitions that the contracts cite.
pub mod Codelets
pub mod Inner
pub mod Faults
