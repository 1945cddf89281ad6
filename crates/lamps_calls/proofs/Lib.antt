mod Five
pub mod Only
