pub mod Words
pub mod Steps
pub mod Packs
pub mod Back
