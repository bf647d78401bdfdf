pub mod ByteLaws
pub mod SameLaws
pub mod Choice
