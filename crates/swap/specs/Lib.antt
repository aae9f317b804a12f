pub mod Swapped
