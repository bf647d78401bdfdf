pub mod LinesLaws
pub mod SlotLaws
pub mod OrderLaws
