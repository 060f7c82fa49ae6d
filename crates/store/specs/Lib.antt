pub mod Layout
pub mod Meaning
pub mod Canon
pub mod Steps
pub mod Answers
