pub mod Messages
pub mod Leads
pub mod LeadOf
