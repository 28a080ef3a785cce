pub mod Figures
pub mod Rules
pub mod Offers
pub mod Tallies
pub mod Gathering
