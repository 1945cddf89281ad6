pub mod Machine
pub mod Promises
