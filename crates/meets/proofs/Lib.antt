pub mod MeetLaws
pub mod RelationLaws
pub mod MeetTheorems
pub mod Examples
