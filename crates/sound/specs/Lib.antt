pub mod Sound
pub mod Laws
pub mod Settled
