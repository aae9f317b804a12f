pub mod Visits
pub mod Stale
pub mod Settling
