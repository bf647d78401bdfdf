pub mod TextsLaws
pub mod SlotLaws
