pub mod Blocks
pub mod Moving
