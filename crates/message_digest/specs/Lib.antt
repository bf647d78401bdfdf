pub mod Md5
pub mod Padding
pub mod Ascii
pub mod TestSuite
pub mod Ending
