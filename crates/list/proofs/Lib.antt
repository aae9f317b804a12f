pub mod Words
pub mod Card
pub mod Loops
pub mod Written
