pub mod RunLemmas
pub mod RunStopLemmas
pub mod StartLemmas
