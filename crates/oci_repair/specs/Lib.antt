pub mod Whole
pub mod Sources
pub mod Fault
pub mod Planned
pub mod Repaired
