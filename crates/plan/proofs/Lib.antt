pub mod SizeLaws
pub mod PlanLaws
