pub mod Stores
pub mod Tables
pub mod Windows
pub mod Runs
