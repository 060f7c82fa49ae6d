pub mod Lots
pub mod Laws
pub mod Cases
