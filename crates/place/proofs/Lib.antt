pub mod Splits
pub mod Walking
