pub mod TakenLemmas
pub mod RowLemmas
