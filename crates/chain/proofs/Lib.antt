pub mod Ahead
pub mod Scan
pub mod Shortest
pub mod Reading
pub mod Walk
pub mod Inverse
pub mod Tagging
