pub mod Names
pub mod Forms
pub mod Operands
pub mod Views
