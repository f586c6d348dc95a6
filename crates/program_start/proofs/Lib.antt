pub mod WorkloadLemmas
pub mod WordFileLemmas
pub mod ReadingLemmas
pub mod ToldLemmas
pub mod UnreadLemmas
pub mod RefusalLemmas
pub mod WordCountLemmas
