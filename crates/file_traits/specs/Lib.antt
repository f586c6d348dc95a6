pub mod Streams
pub mod FileCalls
pub mod Lists
pub mod State
pub mod OneList
pub mod Failures
