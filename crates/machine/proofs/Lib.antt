pub mod Beginning
pub mod Calling
pub mod Filling
pub mod Passing
