pub mod Sheets
pub mod SheetsShown
