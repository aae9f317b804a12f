pub mod Checked
pub mod Faultless
pub mod Middle
pub mod Right
pub mod Sets
