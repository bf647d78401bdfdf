pub mod OpenedLaws
pub mod DecideLaws
pub mod AnswerLaws
pub mod ShownLaws
