pub mod Laws
pub mod Known
pub mod Rule
pub mod Words
pub mod Named
pub mod Shown
pub mod Crossing
