pub mod Valid
pub mod Core
pub mod Laws
pub mod Resumption
