pub mod Recording
pub mod Numbered
pub mod Scripts
pub mod Connections
pub mod Entries
pub mod Kept
