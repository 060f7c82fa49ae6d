pub mod OrderIds
pub mod Words
