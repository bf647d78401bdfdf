pub mod Within
pub mod Lookup
pub mod Theorems
