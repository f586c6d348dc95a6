pub mod EchoLemmas
pub mod StackLemmas
pub mod ReadingLemmas
pub mod OpenLemmas
