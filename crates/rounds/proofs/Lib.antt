pub mod Ends
pub mod Gives
pub mod Laws
pub mod Once
