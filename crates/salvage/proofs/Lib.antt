pub mod Stepping
pub mod Walking
pub mod Filling
pub mod Joining
pub mod Windows
pub mod Laws
pub mod Cases
