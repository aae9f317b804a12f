pub mod Runs
pub mod Visited
pub mod Written
