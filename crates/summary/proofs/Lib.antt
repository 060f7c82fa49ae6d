pub mod Words
pub mod Dates
pub mod Laws
