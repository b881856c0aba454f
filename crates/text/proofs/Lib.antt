-- Lemmas that several proofs share.
pub mod DecimalLines
pub mod Faults
pub mod FirstLine
pub mod Giving
pub mod HexLines
pub mod Readings
