pub mod Shown
pub mod Lawful
pub mod Theorems
