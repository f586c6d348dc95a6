pub mod OutcomeLemmas
pub mod ToldLemmas
pub mod ValidLemmas
pub mod ResumptionLemmas
pub mod Unwatched
pub mod OwnScript
pub mod WorkloadWords
pub mod WorkloadTold
