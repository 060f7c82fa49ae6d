pub mod Headings
pub mod Ascents
pub mod Spreads
pub mod Booked
pub mod Lowest
