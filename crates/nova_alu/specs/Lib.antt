pub mod Arithmetic
pub mod Codes
pub mod Numbers
pub mod MultiplyDivide
