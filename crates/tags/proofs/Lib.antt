pub mod Slots
pub mod Marking
pub mod Tidiness
pub mod Unbroken
