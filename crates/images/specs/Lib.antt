pub mod Reading
pub mod Checking
pub mod Bytes
pub mod Laying
pub mod Writing
pub mod Laws
