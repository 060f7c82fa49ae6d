pub mod Actions
pub mod Same
