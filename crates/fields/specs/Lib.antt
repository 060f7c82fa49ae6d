pub mod Messages
pub mod Bodies
