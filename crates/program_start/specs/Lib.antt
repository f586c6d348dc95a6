pub mod Workload
pub mod Start
pub mod WordFiles
pub mod Unread
pub mod WordCounts
