pub mod Image
pub mod Pieces
pub mod Reading
pub mod Spacing
pub mod Writing
pub mod Laws
