pub mod Structure
pub mod Checked
pub mod Sound
