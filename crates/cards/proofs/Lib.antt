pub mod Meaning
pub mod Unique
pub mod Laid
pub mod Area
pub mod Rule
pub mod Joined
pub mod Added
