pub mod References
pub mod Leaves
pub mod Keeps
