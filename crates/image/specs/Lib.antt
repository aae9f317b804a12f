pub mod Answer
pub mod Word
pub mod Kinds
pub mod Fours
