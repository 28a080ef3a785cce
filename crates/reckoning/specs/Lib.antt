pub mod Grid
pub mod Totals
pub mod Sheets
pub mod Admission
pub mod Reckoning
