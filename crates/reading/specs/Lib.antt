pub mod Editions
pub mod Reading
pub mod Shown
pub mod Weighings
pub mod Buffers
