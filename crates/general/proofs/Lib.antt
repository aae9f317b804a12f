pub mod Bools
pub mod Scan
pub mod Tests
pub mod Numbers
pub mod Rising
