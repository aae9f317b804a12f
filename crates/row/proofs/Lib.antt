pub mod Bits
pub mod Same
