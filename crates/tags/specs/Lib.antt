pub mod Tags
pub mod Tables
