pub mod Segments
pub mod Signs
pub mod Shapes
pub mod Laws
