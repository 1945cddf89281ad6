pub mod Laws
pub mod Second
pub mod Cycle
