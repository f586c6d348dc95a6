pub mod Handing
pub mod Adding
pub mod Causes
pub mod Own
pub mod Emptying
pub mod Exact
pub mod OwnFiles
pub mod Possible
