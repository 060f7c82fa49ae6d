pub mod Runs
pub mod Exactly
pub mod Cases
