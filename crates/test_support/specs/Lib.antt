pub mod Failing
pub mod Files
