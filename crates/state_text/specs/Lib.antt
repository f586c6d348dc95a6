pub mod Faults
pub mod Rows
pub mod Text
pub mod Reading
pub mod Gives
pub mod Pieces
pub mod Laws
