pub mod Intact
pub mod Corrupt
pub mod Fault
pub mod Reached
