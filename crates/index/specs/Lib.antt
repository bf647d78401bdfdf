pub mod Lookup
