pub mod Gap
pub mod Order
