pub mod BuiltIn
pub mod Reading
pub mod Setting
pub mod Reporting
pub mod Promises
pub mod Numbers
pub mod Reported
pub mod Cases
