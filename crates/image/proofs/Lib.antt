pub mod Head
pub mod Sum
pub mod Words
pub mod FourWords
