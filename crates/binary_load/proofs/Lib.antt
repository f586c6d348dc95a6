pub mod DumpLemmas
pub mod FaultLemmas
pub mod FormLemmas
pub mod GrammarLemmas
pub mod RangeLemmas
pub mod ReadingLemmas
pub mod RunLemmas
pub mod StoreLemmas
