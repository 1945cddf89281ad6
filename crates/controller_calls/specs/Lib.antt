pub mod Held
pub mod Memory
pub mod Sender
pub mod Handling
pub mod Replies
pub mod Stepper
