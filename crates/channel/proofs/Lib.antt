pub mod Aiming
pub mod Board
pub mod Beyond
pub mod Laws
