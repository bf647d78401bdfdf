pub mod CatalogueLaws
pub mod ListLaws
