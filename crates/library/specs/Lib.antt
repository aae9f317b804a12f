pub mod Library
pub mod Calls
pub mod Seam
pub mod Accepted
pub mod Tables
