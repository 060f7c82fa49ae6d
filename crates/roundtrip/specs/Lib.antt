pub mod ReadBack
pub mod TakenBack
