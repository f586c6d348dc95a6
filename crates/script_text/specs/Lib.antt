pub mod Arguments
pub mod Filling
pub mod Labels
pub mod Laws
pub mod Lines
pub mod Storage
