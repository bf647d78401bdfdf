pub mod AmongLaws
pub mod FirstLaws
pub mod WithLaws
pub mod RowLaws
