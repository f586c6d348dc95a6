pub mod ValidTexts
pub mod ValidSessions
pub mod ResumptionLemmas
pub mod LawLemmas
pub mod CoreLemmas
pub mod RoomLemmas
pub mod ListenedLemmas
