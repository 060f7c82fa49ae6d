pub mod Stretching
pub mod Running
pub mod Laws
