pub mod Visits
pub mod Walk
pub mod Looks
pub mod Settling
pub mod Calls
pub mod Laws
pub mod Walked
