pub mod Tops
pub mod Asked
pub mod Refused
