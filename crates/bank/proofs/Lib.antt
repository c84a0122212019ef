pub mod FieldBits
pub mod DeviceWords
pub mod BankLaws
