pub mod Sums
pub mod Postings
pub mod Orders
pub mod Instructions
pub mod Imbalances
pub mod Sheet
pub mod Laws
pub mod Worked
