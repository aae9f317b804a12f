pub mod Samples
pub mod Fixed
pub mod Wrong
