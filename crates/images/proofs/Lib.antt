pub mod Rows
pub mod Deciding
pub mod Laying
pub mod Days
pub mod Numbers
pub mod DayAndImage
pub mod Written
pub mod Copied
