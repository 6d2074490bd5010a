pub mod Reading
pub mod Whole
pub mod Places
pub mod Walk
pub mod Known
pub mod Mended
