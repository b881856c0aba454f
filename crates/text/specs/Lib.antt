-- The definitions that the contracts cite, and what they say of whole lines.
pub mod Bytes
pub mod Decimal
pub mod Decoding
pub mod Hexadecimal
pub mod Input
pub mod Lines
pub mod Request
pub mod Theorem
pub mod Told
