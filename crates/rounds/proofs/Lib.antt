-- What the proofs of the functions share, and what is proved of the definitions.
pub mod ListingLaws
pub mod StepLaws
pub mod BlockLaws
pub mod EmptyMessage
