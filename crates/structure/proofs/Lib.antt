pub mod RecordsLaws
pub mod PassLaws
pub mod SoundLaws
pub mod NumberLaws
pub mod TagLaws
