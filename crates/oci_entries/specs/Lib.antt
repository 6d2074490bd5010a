pub mod Brought
pub mod Pattern
