pub mod Mem
pub mod Tagged
