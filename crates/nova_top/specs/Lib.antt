pub mod Outside
pub mod Ends
pub mod Program
pub mod Valid
pub mod Resumption
pub mod Used
