pub mod Shapes
pub mod Parts
pub mod Walking
pub mod Promised
pub mod Only
