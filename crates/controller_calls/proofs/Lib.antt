pub mod Laws
pub mod Held
pub mod Putting
pub mod Written
pub mod Sending
pub mod Repeating
pub mod Only
pub mod Starts
