pub mod Grammar
pub mod Algorithm
pub mod Digest
pub mod Hash
pub mod HashLaws
pub mod Hashing
pub mod Fault
pub mod Refusals
