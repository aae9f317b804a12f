pub mod Answer
pub mod Fold
