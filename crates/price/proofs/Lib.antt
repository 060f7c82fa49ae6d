pub mod Signed
pub mod Parts
pub mod Back
pub mod Cases
