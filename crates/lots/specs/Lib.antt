pub mod Numbers
pub mod Lots
pub mod Rooms
pub mod Laws
