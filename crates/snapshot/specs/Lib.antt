pub mod Snapshot
pub mod Writing
