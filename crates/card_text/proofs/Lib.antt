pub mod Lines
pub mod Number
pub mod Printed
