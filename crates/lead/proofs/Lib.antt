pub mod Leading
pub mod Bodies
pub mod Answered
pub mod Ways
