pub mod Parts
pub mod Ranges
pub mod Order
pub mod Valid
pub mod Fields
pub mod SavedWatch
