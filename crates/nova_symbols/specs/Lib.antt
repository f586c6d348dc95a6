pub mod Names
pub mod Forms
pub mod Canon
pub mod Naming
pub mod Operands
pub mod Reading
pub mod Faults
pub mod Reference
