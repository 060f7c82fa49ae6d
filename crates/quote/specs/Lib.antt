pub mod Numbers
pub mod Quotes
pub mod Ready
