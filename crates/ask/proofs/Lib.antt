pub mod Facts
pub mod States
pub mod Words
pub mod Quoting
pub mod Laws
