pub mod Codes
pub mod Lawful
pub mod Bounds
pub mod Volumes
