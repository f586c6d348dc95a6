pub mod Shape
pub mod Places
pub mod Checks
pub mod Named
pub mod Effect
pub mod Laws
