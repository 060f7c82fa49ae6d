pub mod Names
pub mod Pages
pub mod Promise
