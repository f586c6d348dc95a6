pub mod WordsLemmas
pub mod StandardLemmas
