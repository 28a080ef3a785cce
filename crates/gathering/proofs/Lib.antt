pub mod Made
pub mod Adding
pub mod Cells
pub mod Hours
pub mod Tenths
pub mod Best
pub mod Tallying
pub mod Linking
