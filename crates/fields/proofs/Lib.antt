pub mod Unbroken
pub mod Whole
