pub mod Reopened
pub mod OverMemory
