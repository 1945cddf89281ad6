pub mod Read
pub mod Only
