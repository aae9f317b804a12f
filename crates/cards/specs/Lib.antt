pub mod Card
pub mod Layout
pub mod Meaning
pub mod Area
pub mod Composed
