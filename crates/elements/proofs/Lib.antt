pub mod PartLaws
pub mod ElementSound
pub mod ElementFound
pub mod ElementLaws
pub mod SingleLaws
pub mod AnswerTheorems
pub mod ElementTheorems
