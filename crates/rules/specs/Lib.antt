pub mod Checked
pub mod Quick
pub mod Rules
pub mod Walk
