pub mod SeekLaws
pub mod FoundLaws
pub mod LookupTheorems
pub mod AnswerTheorems
