pub mod Answer
pub mod Fill
