pub mod Parts
pub mod Marking
pub mod Topping
