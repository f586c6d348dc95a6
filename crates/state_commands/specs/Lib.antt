pub mod StateFaults
pub mod RestoredLines
pub mod StateWorks
pub mod StateEffects
pub mod StateAnswers
pub mod StateReading
