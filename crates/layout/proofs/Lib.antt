pub mod LeadLaws
pub mod OffsetLaws
pub mod StructureLaws
pub mod TurnLaws
