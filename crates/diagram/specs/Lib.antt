pub mod Row
pub mod Rows
pub mod Table
pub mod Known
pub mod Lamps
pub mod Named
pub mod Shown
pub mod Crossing
