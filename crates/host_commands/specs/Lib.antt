pub mod DoEffects
pub mod HostEffect
