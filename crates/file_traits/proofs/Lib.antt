pub mod Fronts
pub mod PutLemmas
pub mod ReadLemmas
pub mod Changes
pub mod Writes
pub mod Shown
pub mod ThroughOne
