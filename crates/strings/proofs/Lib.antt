pub mod StringLaws
pub mod RowLaws
