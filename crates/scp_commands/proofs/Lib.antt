pub mod TraceLemmas
pub mod EffectLemmas
pub mod ObeyLemmas
pub mod CanLemmas
pub mod WorkLemmas
pub mod BackLemmas
pub mod AnswerLemmas
pub mod KindLemmas
