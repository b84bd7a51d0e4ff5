pub mod Packets
pub mod Reads
pub mod Laws
pub mod Numbers
