pub mod Laws
pub mod Run
pub mod Window
pub mod TooFew
