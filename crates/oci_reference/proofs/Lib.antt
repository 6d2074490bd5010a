pub mod Named
pub mod Preferred
pub mod Stated
