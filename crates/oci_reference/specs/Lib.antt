pub mod Reference
pub mod Platform
