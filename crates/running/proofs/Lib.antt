pub mod Gives
pub mod Visited
pub mod Exact
pub mod Written
pub mod Laws
