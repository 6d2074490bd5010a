pub mod Refusal
pub mod Selected
