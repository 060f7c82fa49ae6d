pub mod Prices
pub mod Moments
pub mod OrderIds
