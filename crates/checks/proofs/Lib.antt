pub mod Laws
pub mod Fields
pub mod Stands
pub mod Walk
pub mod Judging
pub mod Order
pub mod Only
