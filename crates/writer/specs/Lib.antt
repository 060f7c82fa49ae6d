pub mod Writing
pub mod Results
