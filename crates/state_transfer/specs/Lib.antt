pub mod Processor
pub mod Session
pub mod Ports
pub mod PutBack
pub mod SavedValid
pub mod Putting
pub mod Listening
