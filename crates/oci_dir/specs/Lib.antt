pub mod Crash
pub mod Device
pub mod Faults
pub mod Memory
pub mod Numbers
pub mod Prunable
