pub mod MatchLaws
pub mod VersionLaws
pub mod RequirementLaws
pub mod VersionTheorems
