pub mod Columned
