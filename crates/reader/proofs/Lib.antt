pub mod Facts
pub mod Walk
