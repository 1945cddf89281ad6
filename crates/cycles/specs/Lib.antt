pub mod Machine
pub mod Cycles
pub mod Ways
pub mod Promises
