pub mod Rolls
pub mod Books
pub mod Layers
pub mod Amended
pub mod Days
