pub mod NumberLemmas
pub mod ReadingLemmas
pub mod WidthLemmas
pub mod QuotedByteLemmas
pub mod QuotedLemmas
pub mod QuotedReadLemmas
pub mod QuotedSkipLemmas
