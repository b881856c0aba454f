pub mod Carried
pub mod Empty
pub mod Filling
pub mod Finals
pub mod Rightness
pub mod Settings
pub mod Soundness
pub mod Sources
