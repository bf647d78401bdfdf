pub mod ReasonLaws
pub mod RightLaws
