pub mod Indexed
pub mod Kind
pub mod SeenIndex
pub mod Opened
pub mod Status
