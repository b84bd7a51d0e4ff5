pub mod Datagrams
pub mod Tests
pub mod Faults
pub mod Checksums
pub mod Laws
pub mod Numbers
