pub mod Lengths
pub mod Facts
pub mod Pages
pub mod Laws
