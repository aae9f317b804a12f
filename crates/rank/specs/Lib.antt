pub mod Walk
pub mod Visits
pub mod Tables
