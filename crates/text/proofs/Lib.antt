pub mod Stores
pub mod Written
