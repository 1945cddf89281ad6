pub mod Laws
pub mod Search
pub mod Every
pub mod Words
pub mod Relations
pub mod Only
pub mod Refusals
