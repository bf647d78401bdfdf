pub mod Digests
pub mod Shown
pub mod Lent
