pub mod Lead
pub mod Package
pub mod Order
