pub mod Words
pub mod Tapes
pub mod Operated
