pub mod Tests
pub mod Each
