pub mod Called
pub mod Right
