pub mod Adapters
pub mod RealFiles
pub mod RealLines
pub mod Placed
