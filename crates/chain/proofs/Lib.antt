pub mod Calls
pub mod Describes
pub mod Dead
pub mod Finding
