pub mod Found
pub mod Queue
