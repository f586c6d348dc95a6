pub mod Undone
pub mod Words
