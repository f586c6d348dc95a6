pub mod RegisterCounts
pub mod WatchOrder
pub mod TakenLists
pub mod PuttingWatchLemmas
