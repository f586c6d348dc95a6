pub mod Laws
pub mod PassedBreaks
pub mod Resumption
pub mod SameCommand
pub mod Valid
