pub mod Whole
pub mod Claims
pub mod Reading
pub mod Writing
