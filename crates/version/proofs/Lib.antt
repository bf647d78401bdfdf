pub mod RunLaws
pub mod TextLaws
pub mod SortLaws
pub mod RunTheorems
pub mod OlderTheorems
pub mod OrderTheorems
pub mod Examples
