pub mod Indications
pub mod Places
pub mod Blocks
pub mod Faults
pub mod Leads
pub mod Laws
pub mod Numbers
