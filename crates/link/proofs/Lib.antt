pub mod Choices
pub mod Writing
