pub mod Serial
pub mod Structure
pub mod Alone
