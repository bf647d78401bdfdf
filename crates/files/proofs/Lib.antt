pub mod LadderLaws
pub mod FilesLaws
