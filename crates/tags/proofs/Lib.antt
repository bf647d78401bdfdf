pub mod TestLaws
pub mod GatherLaws
pub mod SlotLaws
pub mod ShownLaws
