pub mod Laws
pub mod Promised
pub mod Puts
