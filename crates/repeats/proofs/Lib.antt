pub mod IndexLaws
pub mod SeenLaws
