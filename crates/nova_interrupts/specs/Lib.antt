pub mod Interrupts
pub mod Laws
pub mod Requests
