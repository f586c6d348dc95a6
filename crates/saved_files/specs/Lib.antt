pub mod Putting
pub mod PuttingOne
pub mod PuttingCauses
pub mod Taking
pub mod TakingOne
pub mod GivingBack
