pub mod ListFaults
pub mod ListEffects
pub mod ScriptEffects
pub mod SetEffects
pub mod ShowEffects
pub mod WatchTexts
pub mod QuotedText
pub mod UntoldEffect
