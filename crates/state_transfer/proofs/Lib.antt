pub mod PortLemmas
pub mod RowLemmas
pub mod TakingLemmas
pub mod TakenFits
pub mod PutBackMachineLemmas
pub mod TakenStates
pub mod PuttingLemmas
pub mod TakenSizes
