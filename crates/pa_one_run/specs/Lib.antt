pub mod Parts
pub mod Before
pub mod Laws
