pub mod Telnet
pub mod Laws
pub mod Line
pub mod Account
pub mod Poll
pub mod Joined
pub mod Many
