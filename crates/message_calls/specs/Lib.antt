pub mod Info
pub mod Shape
pub mod Walk
pub mod Promises
