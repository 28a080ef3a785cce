pub mod Members
pub mod Sheets
