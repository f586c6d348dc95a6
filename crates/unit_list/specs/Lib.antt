pub mod Bus
pub mod Places
pub mod Reset
pub mod Laws
pub mod Whole
pub mod BusOrder
