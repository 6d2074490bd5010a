pub mod Prefixes
pub mod Appending
pub mod Steps
pub mod Takes
