pub mod Link
pub mod Depth
pub mod Stands
pub mod Ranks
pub mod Answer
pub mod Call
pub mod Shows
