pub mod Table
pub mod Bounds
pub mod Making
pub mod Volumes
pub mod Prices
pub mod Decoding
