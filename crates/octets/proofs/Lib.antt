pub mod OctetLaws
pub mod BodyLaws
