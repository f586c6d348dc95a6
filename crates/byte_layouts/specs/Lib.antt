pub mod Nothing
pub mod Readers
pub mod Held
pub mod Layout
pub mod Parts
pub mod Fed
pub mod Whole
