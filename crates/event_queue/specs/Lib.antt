pub mod EventList
pub mod Deltas
pub mod Active
pub mod Idle
pub mod DueTimes
pub mod Laws
pub mod Agenda
