pub mod GroupsLaws
pub mod SlotLaws
