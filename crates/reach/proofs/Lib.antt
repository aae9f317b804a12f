pub mod Queue
pub mod Reaching
pub mod Listing
