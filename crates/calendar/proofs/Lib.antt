pub mod Search
pub mod Years
pub mod Months
pub mod Dates
