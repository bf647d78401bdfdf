pub mod Verdicts
pub mod Sizes
pub mod Places
pub mod Lead
pub mod Records
