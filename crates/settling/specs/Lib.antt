pub mod Settling
pub mod Turns
