pub mod Turns
pub mod Showing
pub mod Outcomes
pub mod Living
pub mod Board
