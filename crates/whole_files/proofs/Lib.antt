pub mod Filled
pub mod Counts
pub mod Raised
pub mod WriteLemmas
