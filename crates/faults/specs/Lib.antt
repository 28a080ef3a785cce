pub mod Faults
pub mod Asks
pub mod Members
