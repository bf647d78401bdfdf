pub mod Words
pub mod Catalogue
pub mod Lists
