pub mod Messages
pub mod Says
