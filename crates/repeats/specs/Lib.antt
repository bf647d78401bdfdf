pub mod Repeats
pub mod Seen
