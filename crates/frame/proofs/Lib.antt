pub mod Scan
pub mod Opened
pub mod Well
pub mod Framing
pub mod Messages
pub mod Marked
