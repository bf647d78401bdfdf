-- What the proofs of the functions use, and laws for the crates above.
pub mod RotateLaws
pub mod LowFirstLaws
