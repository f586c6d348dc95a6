pub mod Blank
pub mod Chains
pub mod Keeps
pub mod Rules
