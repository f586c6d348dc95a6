pub mod PlaceLemmas
pub mod SpellingLemmas
pub mod BlankLemmas
