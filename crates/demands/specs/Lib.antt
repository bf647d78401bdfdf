pub mod Editions
pub mod Demands
pub mod Lawful
pub mod Rows
