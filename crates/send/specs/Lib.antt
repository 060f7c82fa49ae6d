pub mod Send
pub mod Refusals
pub mod Results
pub mod Laws
