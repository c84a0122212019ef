pub mod Fields
pub mod Banks
pub mod Masks
pub mod Entries
