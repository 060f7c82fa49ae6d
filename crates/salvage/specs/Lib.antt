pub mod Pieces
pub mod Rooms
pub mod Windows
pub mod Laws
pub mod Cases
