-- What the proofs of the functions share, and what is proved of the definitions.
pub mod PaddingLaws
pub mod EndingLaws
pub mod DigestLaws
pub mod TestSuite
