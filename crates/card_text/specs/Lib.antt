pub mod Line
pub mod Print
pub mod Writers
