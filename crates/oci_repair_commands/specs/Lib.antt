pub mod Answered
pub mod Repaired
