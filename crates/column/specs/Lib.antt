pub mod Column
pub mod Sets
pub mod Words
