pub mod VerdictLaws
pub mod RecordLaws
pub mod LeadLaws
pub mod NumberLaws
pub mod RunLaws
pub mod FirstLaws
