mod Untagging
pub mod Pruning
pub mod Naming
