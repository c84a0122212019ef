pub mod Lookups
pub mod DutyTest
