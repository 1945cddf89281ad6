pub mod Laws
pub mod Means
pub mod Only
