pub mod Groups
pub mod Listed
pub mod Reads
