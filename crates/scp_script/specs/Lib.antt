pub mod Session
pub mod Loop
pub mod Used
pub mod Spending
pub mod Perform
