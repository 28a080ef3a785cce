pub mod Rolls
pub mod Places
pub mod Amends
mod Marks
