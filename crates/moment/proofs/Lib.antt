pub mod Bounds
pub mod Steps
pub mod Texts
pub mod Back
pub mod Aged
pub mod Cases
