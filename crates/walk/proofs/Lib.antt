pub mod Walking
pub mod Before
