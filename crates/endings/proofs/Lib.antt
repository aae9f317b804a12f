pub mod Names
pub mod Support
pub mod Reached
pub mod Listed
