pub mod Area
pub mod Visited
