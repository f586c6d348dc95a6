pub mod Processor
pub mod Instruction
pub mod InputOutput
pub mod Burst
pub mod Steps
