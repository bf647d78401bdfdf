pub mod Elements
pub mod Theorems
