pub mod Seeking
pub mod Listing
