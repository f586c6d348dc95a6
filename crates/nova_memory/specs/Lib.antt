pub mod Address
pub mod Laws
pub mod Lending
pub mod Memory
pub mod Whole
