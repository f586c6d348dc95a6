pub mod FillingLemmas
pub mod LabelLemmas
pub mod LawLemmas
pub mod LineLemmas
pub mod StorageLemmas
pub mod WordLemmas
pub mod ByteLemmas
