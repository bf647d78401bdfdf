pub mod Locales
pub mod Order
