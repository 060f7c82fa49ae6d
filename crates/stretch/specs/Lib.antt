pub mod Stretches
pub mod Runs
pub mod Windows
pub mod Laws
