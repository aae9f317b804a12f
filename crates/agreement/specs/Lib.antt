pub mod Samples
pub mod Wrong
