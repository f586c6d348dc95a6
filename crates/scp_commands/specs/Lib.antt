pub mod Effect
pub mod LineAnswers
pub mod Works
pub mod Traces
