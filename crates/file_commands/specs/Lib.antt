pub mod Notes
pub mod Possible
pub mod Counts
pub mod Laws
pub mod Kept
pub mod OwnFiles
pub mod AllUnits
