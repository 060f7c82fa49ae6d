pub mod Moments
pub mod Ages
