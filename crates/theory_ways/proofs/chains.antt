-- Which NATs are behind others.
pub mod Chains
pub mod Climbs
pub mod Rises
pub mod Nats
pub mod Chained
pub mod Places
