pub mod Bits
pub mod Low
pub mod Operations
pub mod Words
