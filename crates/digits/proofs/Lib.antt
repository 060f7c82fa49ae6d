pub mod Width
pub mod Words
pub mod Steps
pub mod Singly
pub mod Fours
pub mod Parts
pub mod Plain
pub mod Ranges
