pub mod OpenLaws
pub mod NumberLaws
pub mod OrderLaws
