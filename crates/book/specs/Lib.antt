pub mod Ids
pub mod Rules
pub mod Sides
pub mod Results
pub mod Canonical
pub mod Cases
