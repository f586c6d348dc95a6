pub mod ReadLemmas
pub mod SpaceLemmas
pub mod WriteLemmas
pub mod ItemLaws
pub mod BlockLaws
pub mod SpaceLaws
pub mod PlaceLemmas
pub mod CallLemmas
