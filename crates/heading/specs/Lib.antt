pub mod Marks
pub mod Headings
