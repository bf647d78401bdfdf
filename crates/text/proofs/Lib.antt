pub mod DecimalLaws
pub mod HexLaws
pub mod NumeralLaws
pub mod ReadBackLaws
pub mod PutLaws
pub mod LineLaws
mod Samples
