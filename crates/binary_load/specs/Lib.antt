pub mod Dump
pub mod Grammar
pub mod Laws
pub mod Pieces
pub mod Runs
pub mod Tape
