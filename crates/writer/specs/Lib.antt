pub mod Card
pub mod Block
