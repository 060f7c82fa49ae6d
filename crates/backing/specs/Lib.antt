pub mod Backing
pub mod Laws
