pub mod Kinds
pub mod Book
pub mod Doses
pub mod Weighings
pub mod Rows
pub mod RowTheorems
pub mod KindTheorems
