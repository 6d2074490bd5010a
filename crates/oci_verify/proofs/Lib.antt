pub mod Intact
pub mod Corrupt
pub mod Crosses
pub mod Reaching
