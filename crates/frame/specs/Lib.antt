pub mod Frames
pub mod ByPlace
pub mod Laws
pub mod Marked
