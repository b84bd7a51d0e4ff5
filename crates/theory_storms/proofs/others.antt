-- Servers, native hosts and NATs.
pub mod AtServers
pub mod FromServers
pub mod Natives
pub mod ServersLighten
pub mod NodesEase
pub mod NativesEase
