pub mod SameRun
pub mod ServiceLaws
pub mod ValidLaws
pub mod WordLaws
