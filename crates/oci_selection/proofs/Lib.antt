pub mod AttachedRoots
pub mod NamedRoots
mod Refusals
pub mod Selections
