pub mod GapLaws
pub mod OrderLaws
