pub mod Sums
pub mod Swapped
