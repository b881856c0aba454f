pub mod Fronts
pub mod OpenIfs
