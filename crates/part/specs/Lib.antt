pub mod Meanings
pub mod Duties
pub mod Faults
pub mod Lists
