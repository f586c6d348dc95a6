pub mod Laws
pub mod Valid
pub mod Resumption
pub mod Told
pub mod WorkloadUse
