pub mod Keyboard
pub mod Teleprinter
