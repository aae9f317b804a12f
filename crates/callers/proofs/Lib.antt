pub mod Calls
pub mod CallerSets
