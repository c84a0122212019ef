pub mod Cutting
pub mod Names
pub mod Numbers
pub mod Spelling
