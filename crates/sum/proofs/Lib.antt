pub mod Lanes
pub mod Loop
