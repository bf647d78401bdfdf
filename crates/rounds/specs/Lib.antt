pub mod Table
pub mod Rounds
pub mod EmptyMessage
pub mod Steps
