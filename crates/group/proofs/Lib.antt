pub mod Grouping
pub mod Reading
pub mod Listing
