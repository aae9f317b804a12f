pub mod Callers
pub mod Callees
