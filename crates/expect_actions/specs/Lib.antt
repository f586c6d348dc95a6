pub mod KeysFile
pub mod Sends
pub mod Actions
pub mod Breaks
pub mod Expects
pub mod Watch
pub mod Filled
