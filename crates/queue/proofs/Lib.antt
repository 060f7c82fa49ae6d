pub mod Joining
pub mod Board
