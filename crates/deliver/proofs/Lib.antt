pub mod Outcomes
pub mod Working
pub mod Applying
pub mod Breaking
pub mod Giving
