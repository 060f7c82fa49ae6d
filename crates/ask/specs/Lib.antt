pub mod Ask
pub mod Fine
pub mod Laws
