pub mod Weights
pub mod Burden
pub mod Trust
pub mod Eased
pub mod Left
