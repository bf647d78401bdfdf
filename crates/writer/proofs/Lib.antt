pub mod TurnLaws
pub mod StructureLaws
pub mod PackageLaws
pub mod WriteLaws
