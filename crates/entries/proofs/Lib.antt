pub mod TypeLaws
pub mod EntryLaws
pub mod RuleLaws
