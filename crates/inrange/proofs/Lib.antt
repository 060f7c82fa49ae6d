pub mod Okay
pub mod Entries
pub mod Read
