pub mod Holding
pub mod Cases
