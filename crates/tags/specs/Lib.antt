pub mod Tags
pub mod Slots
pub mod ByTag
