pub mod Endless
pub mod Reached
