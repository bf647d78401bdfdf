pub mod Stores
pub mod Books
pub mod Locales
pub mod Written
pub mod Digests
pub mod Tags
pub mod Gaps
pub mod Samples
