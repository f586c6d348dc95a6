pub mod Cutting
pub mod Sequences
pub mod Accounts
pub mod FrontBytes
pub mod Sending
pub mod Polling
pub mod Apart
pub mod Several
