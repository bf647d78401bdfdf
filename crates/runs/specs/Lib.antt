pub mod Runs
pub mod Common
