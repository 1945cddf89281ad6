pub mod Listing
pub mod Run
pub mod Promises
pub mod Puts
