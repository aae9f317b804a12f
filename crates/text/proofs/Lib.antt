pub mod Numeral
pub mod Text
pub mod Words
